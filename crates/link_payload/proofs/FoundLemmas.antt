-- The entries and the cut that a walk finds.
use Rattle.std.proofs.Common.{◌≡◌, ℕ, List, [], ◌∷◌, ◌++◌, map, Option, Some, None, Err, refl, ap, ◌∙◌, inl, inr}
use Rattle.link_payload.specs.declared.fault.PayloadFault.TheVariants.{Cut}
use Rattle.link_payload.specs.Entries.{EntryValue, Spells, IsCutAt, AreEntriesIn, AreBytes}
use Rattle.link_payload.specs.Items.{ok_item, entries_among, cut_among, entries_of, cut_of}
use Rattle.link_payload.proofs.WalkLemmas.{SpelledOrCut, walk_of, spelled_or_cut_by, spelled_items, cut_items}

entries_again : (es : List EntryValue) → entries_among (map ok_item es) ≡ es
entries_again [] = refl
entries_again (e ∷ es) = ap (λ (xs : List EntryValue). e ∷ xs) (entries_again es)

no_cut : (es : List EntryValue) → cut_among (map ok_item es) ≡ None
no_cut [] = refl
no_cut (e ∷ es) = no_cut es

entries_before : (es : List EntryValue) (n : ℕ) → entries_among (map ok_item es ++ Err (Cut n) ∷ []) ≡ es
entries_before [] n = refl
entries_before (e ∷ es) n = ap (λ (xs : List EntryValue). e ∷ xs) (entries_before es n)

cut_behind : (es : List EntryValue) (n : ℕ) → cut_among (map ok_item es ++ Err (Cut n) ∷ []) ≡ Some n
cut_behind [] n = refl
cut_behind (e ∷ es) n = cut_behind es n

pub spelled_found : (payload : List ℕ) (es : List EntryValue) → Spells payload es → (entries_of payload ≡ es) × (cut_of payload ≡ None)
unfolding entries_of cut_of
spelled_found payload es s =
    let items = spelled_items payload es s in
    (ap entries_among items ∙ entries_again es, ap cut_among items ∙ no_cut es)

cut_found : (payload : List ℕ) (n : ℕ) (es : List EntryValue) → AreBytes payload → IsCutAt payload n es → (entries_of payload ≡ es) × (cut_of payload ≡ Some n)
unfolding entries_of cut_of
cut_found payload n es are_bytes c =
    let items = cut_items payload n es are_bytes c in
    (ap entries_among items ∙ entries_before es n, ap cut_among items ∙ cut_behind es n)

found_so : (payload : List ℕ) (es : List EntryValue) (cut : Option ℕ) → (entries_of payload ≡ es) × (cut_of payload ≡ cut) → AreEntriesIn payload es cut
    → AreEntriesIn payload (entries_of payload) (cut_of payload)
found_so payload es cut found are = rw (found.0, found.1) are

walked_by : (payload : List ℕ) → AreBytes payload → SpelledOrCut payload → AreEntriesIn payload (entries_of payload) (cut_of payload)
walked_by payload are_bytes (inl found) = found_so payload found.0 None (spelled_found payload found.0 found.1) found.1
walked_by payload are_bytes (inr found) = found_so payload found.1 (Some found.0) (cut_found payload found.0 found.1 are_bytes found.2) found.2

pub walk_finds : (payload : List ℕ) → AreBytes payload → AreEntriesIn payload (entries_of payload) (cut_of payload)
walk_finds payload are_bytes = walked_by payload are_bytes (spelled_or_cut_by payload (walk_of payload are_bytes))
