-- Walks from entry to entry: that there is one, that it is the only one, and its items.
use Rattle.std.proofs.Common.{◌≡◌, ◌≢◌, true, false, nat_eq, ℕ, zero, suc, ◌≤◌, ◌+◌, List, [], ◌∷◌, ◌++◌, length, drop, map, Option, Some, None, Err, refl, sym, ap, ap₂, subst, ◌∙◌, append_assoc, length-append, arith, ◌⊎◌, inl, inr}
use Rattle.std.specs.List.{AllByRecursion}
use Rattle.std.proofs.lemmas.Bool.{eqb-true}
use Rattle.std.proofs.lemmas.Bool.Decides.{nat_tests}
use Rattle.std.proofs.lemmas.List.{append-nil, drop_at}
use Rattle.link_payload.specs.declared.fault.PayloadFault.TheVariants.{Cut}
use Rattle.link_payload.specs.Entries.{EntryValue, IsEntry, Spells, IsCutAt, AreBytes, spelled_entry_of, spelled_entries_of}
use Rattle.link_payload.specs.Items.{Item, ok_item, entry_at_front, items_from, items_at}
use Rattle.link_payload.proofs.EntryLemmas.{Front, AreBytes-drop, entry_read, front-length, front_read}
use Rattle.link_payload.proofs.ReadingLemmas.{length-entry_rest}

-- no entry begins with these bytes
abbrev pub IsStuck : List ℕ → Type 0
IsStuck rest = (e : EntryValue) (more : List ℕ) → IsEntry e → rest ≡ spelled_entry_of e.key e.value ++ more → ⊥

pub stuck-nil : IsStuck []
stuck-nil e more fits is = absurd (omega (arith, ap length is, length-entry_rest e.key e.value more))

entries-nil : spelled_entries_of [] ≡ []
unfolding spelled_entries_of
entries-nil = refl

pub entries-cons : (e : EntryValue) (es : List EntryValue) (rest : List ℕ) → spelled_entries_of (e ∷ es) ++ rest ≡ spelled_entry_of e.key e.value ++ (spelled_entries_of es ++ rest)
unfolding spelled_entries_of
entries-cons e es rest = append_assoc (spelled_entry_of e.key e.value) (spelled_entries_of es) rest

nil_before : (rest : List ℕ) → spelled_entries_of [] ++ rest ≡ rest
nil_before rest = ap (λ (bs : List ℕ). bs ++ rest) entries-nil

-- two entries at the front of the same bytes are one
one_front : (e f : EntryValue) (x y : List ℕ) → IsEntry e → IsEntry f → spelled_entry_of e.key e.value ++ x ≡ spelled_entry_of f.key f.value ++ y → (e ≡ f) × (x ≡ y)
one_front e f x y e_fits f_fits is =
    let some : Front → Option Front = λ p. Some p in
    let left : Front = (e, x) in
    let right : Front = (f, y) in
    let same : some left ≡ some right = sym (entry_read e x e_fits) ∙ ap entry_at_front is ∙ entry_read f y f_fits in
    let pair : left ≡ right = cc in
    (ap (λ (p : Front). p.0) pair, ap (λ (p : Front). p.1) pair)

pub one_walk : (es fs : List EntryValue) (r s : List ℕ) → AllByRecursion IsEntry es → AllByRecursion IsEntry fs → IsStuck r → IsStuck s
    → spelled_entries_of es ++ r ≡ spelled_entries_of fs ++ s → (es ≡ fs) × (r ≡ s)
one_walk [] [] r s es_fit fs_fit r_stuck s_stuck is = (refl, sym (nil_before r) ∙ is ∙ nil_before s)
one_walk [] (f ∷ fs) r s es_fit fs_fit r_stuck s_stuck is =
    absurd (r_stuck f (spelled_entries_of fs ++ s) fs_fit.0 (sym (nil_before r) ∙ is ∙ entries-cons f fs s))
one_walk (e ∷ es) [] r s es_fit fs_fit r_stuck s_stuck is =
    absurd (s_stuck e (spelled_entries_of es ++ r) es_fit.0 (sym (nil_before s) ∙ sym is ∙ entries-cons e es r))
one_walk (e ∷ es) (f ∷ fs) r s es_fit fs_fit r_stuck s_stuck is =
    let front = one_front e f _ _ es_fit.0 fs_fit.0 (sym (entries-cons e es r) ∙ is ∙ entries-cons f fs s) in
    let others = one_walk es fs r s es_fit.1 fs_fit.1 r_stuck s_stuck front.1 in
    (ap₂ (λ (x : EntryValue) (xs : List EntryValue). x ∷ xs) front.0 others.0, others.1)

-- a walk over all bytes
pub record Walk (bytes : List ℕ) : Type 0 where
  pub es : List EntryValue
  pub rest : List ℕ
  pub each : AllByRecursion IsEntry es
  pub split : bytes ≡ spelled_entries_of es ++ rest
  pub stuck : IsStuck rest

no_front_is_stuck : (bytes : List ℕ) → entry_at_front bytes ≡ None → IsStuck bytes
no_front_is_stuck bytes none e more fits is =
    let some : entry_at_front bytes ≡ Some (e, more) = ap entry_at_front is ∙ entry_read e more fits in
    absurd cc

stuck_has_no_front : (bytes : List ℕ) (r : Option Front) → AreBytes bytes → IsStuck bytes → entry_at_front bytes ≡ r → entry_at_front bytes ≡ None
stuck_has_no_front bytes None are_bytes stuck is = is
stuck_has_no_front bytes (Some found) are_bytes stuck is =
    let read = front_read bytes found are_bytes is in
    absurd (stuck found.0 found.1 read.0 read.1)

-- what is left after the front
AreBytes-after : (bytes front rest : List ℕ) → AreBytes bytes → bytes ≡ front ++ rest → AreBytes rest
AreBytes-after bytes front rest are_bytes is =
    subst AreBytes (ap (drop (length front)) is ∙ drop_at front rest (length front) refl) (AreBytes-drop (length front) bytes are_bytes)

walk_on : (bytes : List ℕ) (e : EntryValue) (rest : List ℕ) → IsEntry e → bytes ≡ spelled_entry_of e.key e.value ++ rest → Walk rest → Walk bytes
walk_on bytes e rest fits is walk = record {
  es = e ∷ walk.es;
  rest = walk.rest;
  each = (fits, walk.each);
  split = is ∙ ap (λ (bs : List ℕ). spelled_entry_of e.key e.value ++ bs) walk.split ∙ sym (entries-cons e walk.es walk.rest);
  stuck = walk.stuck;
}

-- one step of a walk, by a walk over fewer bytes
walk_step : (fuel : ℕ) (bytes : List ℕ) (r : Option Front) → length bytes ≤ suc fuel → AreBytes bytes
    → ((others : List ℕ) → length others ≤ fuel → AreBytes others → Walk others) → entry_at_front bytes ≡ r → Walk bytes
walk_step fuel bytes None len are_bytes shorter is = record {
  es = [];
  rest = bytes;
  each = tt;
  split = sym (nil_before bytes);
  stuck = no_front_is_stuck bytes is;
}
walk_step fuel bytes (Some found) len are_bytes shorter is =
    let read = front_read bytes found are_bytes is in
    let fewer = front-length bytes found is in
    walk_on bytes found.0 found.1 read.0 read.1 (shorter found.1 (omega (arith, fewer, len)) (AreBytes-after bytes _ found.1 are_bytes read.1))

walk_by : (fuel : ℕ) (bytes : List ℕ) → length bytes ≤ fuel → AreBytes bytes → Walk bytes
walk_by zero bytes len are_bytes =
    record {
      es = [];
      rest = bytes;
      each = tt;
      split = sym (nil_before bytes);
      stuck = λ e more fits is. absurd (omega (arith, len, ap length is, length-entry_rest e.key e.value more));
    }
walk_by (suc fuel) bytes len are_bytes = walk_step fuel bytes (entry_at_front bytes) len are_bytes (walk_by fuel) refl

pub walk_of : (bytes : List ℕ) → AreBytes bytes → Walk bytes
walk_of bytes are_bytes = walk_by (length bytes) bytes (omega arith) are_bytes

-- ---- the items of a walk

-- no more items, or a cut
abbrev pub last_items : ℕ → List ℕ → List Item
last_items place [] = []
last_items place (b ∷ bytes) = Err (Cut place) ∷ []

items-stuck : (fuel place b : ℕ) (bytes : List ℕ) → entry_at_front (b ∷ bytes) ≡ None → items_from (suc fuel) place (b ∷ bytes) ≡ Err (Cut place) ∷ []
unfolding items_from
items-stuck fuel place b bytes none = rw none refl

items-found : (fuel place b : ℕ) (bytes : List ℕ) (found : Front) → entry_at_front (b ∷ bytes) ≡ Some found
    → items_from (suc fuel) place (b ∷ bytes) ≡ ok_item found.0 ∷ items_from fuel (place + 8 + length found.0.value) found.1
unfolding items_from
items-found fuel place b bytes found some = rw some refl

pub items-nil : (fuel place : ℕ) → items_from fuel place [] ≡ []
unfolding items_from
items-nil fuel place = refl

stuck_items : (fuel place : ℕ) (rest : List ℕ) → length rest ≤ fuel → AreBytes rest → IsStuck rest → items_from fuel place rest ≡ last_items place rest
stuck_items fuel place [] len are_bytes stuck = items-nil fuel place
stuck_items zero place (b ∷ rest) len are_bytes stuck = absurd (omega arith)
stuck_items (suc fuel) place (b ∷ rest) len are_bytes stuck = items-stuck fuel place b rest (stuck_has_no_front (b ∷ rest) (entry_at_front (b ∷ rest)) are_bytes stuck refl)

-- the items of bytes that begin with an entry
pub items_more : (fuel place : ℕ) (bytes : List ℕ) (found : Front) → length bytes ≤ suc fuel → entry_at_front bytes ≡ Some found
    → items_from (suc fuel) place bytes ≡ ok_item found.0 ∷ items_from fuel (place + 8 + length found.0.value) found.1
items_more fuel place [] found len some = absurd (omega (arith, front-length [] found some))
items_more fuel place (b ∷ bytes) found len some = items-found fuel place b bytes found some

entries-length : (e : EntryValue) (es : List EntryValue) → length (spelled_entries_of (e ∷ es)) ≡ 8 + length e.value + length (spelled_entries_of es)
entries-length e es =
    let parts = ap length (entries-cons e es []) in
    let one = length-entry_rest e.key e.value (spelled_entries_of es ++ []) in
    omega (arith, parts, one, length-append (spelled_entries_of (e ∷ es)) [], length-append (spelled_entries_of es) [])

-- no entry is found in what is left
abbrev EndsSo : List ℕ → Type 0
EndsSo rest = (fuel place : ℕ) → length rest ≤ fuel → items_from fuel place rest ≡ last_items place rest

ends-nil : EndsSo []
ends-nil fuel place len = items-nil fuel place

-- the items of a walk are its entries, and then perhaps a cut
walked_items : (fuel place : ℕ) (bytes : List ℕ) (es : List EntryValue) (rest : List ℕ) → length bytes ≤ fuel
    → AllByRecursion IsEntry es → EndsSo rest → bytes ≡ spelled_entries_of es ++ rest
    → items_from fuel place bytes ≡ map ok_item es ++ last_items (place + length (spelled_entries_of es)) rest
walked_items fuel place bytes [] rest len each ends is =
    let same : bytes ≡ rest = is ∙ nil_before rest in
    let here : place + length (spelled_entries_of []) ≡ place = omega (arith, ap length entries-nil) in
    ap (items_from fuel place) same ∙ ends fuel place (subst (λ (bs : List ℕ). length bs ≤ fuel) same len)
    ∙ ap (λ (p : ℕ). last_items p rest) (sym here)
walked_items zero place bytes (e ∷ es) rest len each ends is =
    absurd (omega (arith, len, ap length (is ∙ entries-cons e es rest), length-entry_rest e.key e.value (spelled_entries_of es ++ rest)))
walked_items (suc fuel) place bytes (e ∷ es) rest len each ends is =
    let after = spelled_entries_of es ++ rest in
    let front_is = is ∙ entries-cons e es rest in
    let some = ap entry_at_front front_is ∙ entry_read e after each.0 in
    let fewer = front-length bytes (e, after) some in
    let others = walked_items fuel (place + 8 + length e.value) after es rest (omega (arith, fewer, len)) each.1 ends refl in
    let there : place + 8 + length e.value + length (spelled_entries_of es) ≡ place + length (spelled_entries_of (e ∷ es)) = omega (arith, entries-length e es) in
    items_more fuel place bytes (e, after) len some
    ∙ ap (λ (xs : List Item). ok_item e ∷ xs) (others ∙ ap (λ (p : ℕ). map ok_item es ++ last_items p rest) there)

pub spelled_items : (bytes : List ℕ) (es : List EntryValue) → Spells bytes es → items_from (length bytes) 0 bytes ≡ map ok_item es
spelled_items bytes es s =
    walked_items (length bytes) 0 bytes es [] (omega arith) s.each ends-nil (s.spelled ∙ sym (append-nil (spelled_entries_of es))) ∙ append-nil (map ok_item es)

some_last : (place n : ℕ) (rest : List ℕ) → rest ≢ [] → n ≡ place → last_items place rest ≡ Err (Cut n) ∷ []
some_last place n [] some is = absurd (some refl)
some_last place n (b ∷ rest) some is = ap (λ (p : ℕ). last_items p (b ∷ rest)) (sym is)

pub cut_items : (bytes : List ℕ) (n : ℕ) (es : List EntryValue) → AreBytes bytes → IsCutAt bytes n es → items_from (length bytes) 0 bytes ≡ map ok_item es ++ Err (Cut n) ∷ []
cut_items bytes n es are_bytes c =
    let rest_bytes = AreBytes-after bytes (spelled_entries_of es) c.rest are_bytes c.split in
    walked_items (length bytes) 0 bytes es c.rest (omega arith) c.each (λ fuel place len. stuck_items fuel place c.rest len rest_bytes c.no_entry) c.split
    ∙ ap (λ (xs : List Item). map ok_item es ++ xs) (some_last (0 + length (spelled_entries_of es)) n c.rest c.some (omega (arith, c.place)))

abbrev Agree : ℕ → ℕ → Type 0
Agree fuel more = (place : ℕ) (bytes : List ℕ) → length bytes ≤ fuel → length bytes ≤ more → items_from fuel place bytes ≡ items_from more place bytes

same_step : (fuel more place b : ℕ) (bytes : List ℕ) (r : Option Front) → length (b ∷ bytes) ≤ suc fuel → length (b ∷ bytes) ≤ suc more → Agree fuel more
    → entry_at_front (b ∷ bytes) ≡ r → items_from (suc fuel) place (b ∷ bytes) ≡ items_from (suc more) place (b ∷ bytes)
same_step fuel more place b bytes None len len' shorter is = items-stuck fuel place b bytes is ∙ sym (items-stuck more place b bytes is)
same_step fuel more place b bytes (Some found) len len' shorter is =
    let fewer = front-length (b ∷ bytes) found is in
    items-found fuel place b bytes found is
    ∙ ap (λ (xs : List Item). ok_item found.0 ∷ xs) (shorter (place + 8 + length found.0.value) found.1 (omega (arith, fewer, len)) (omega (arith, fewer, len')))
    ∙ sym (items-found more place b bytes found is)

-- more than enough fuel changes nothing
same_items : (fuel more place : ℕ) (bytes : List ℕ) → length bytes ≤ fuel → length bytes ≤ more → items_from fuel place bytes ≡ items_from more place bytes
same_items fuel more place [] len len' = items-nil fuel place ∙ sym (items-nil more place)
same_items zero more place (b ∷ bytes) len len' = absurd (omega arith)
same_items (suc fuel) zero place (b ∷ bytes) len len' = absurd (omega arith)
same_items (suc fuel) (suc more) place (b ∷ bytes) len len' = same_step fuel more place b bytes (entry_at_front (b ∷ bytes)) len len' (same_items fuel more) refl

-- ---- one item

pub empty_items : (place : ℕ) (bytes : List ℕ) → nat_eq (length bytes) 0 ≡ true → items_at place bytes ≡ []
empty_items place [] is = items-nil 0 place
empty_items place (b ∷ bytes) is = absurd (omega (arith, eqb-true _ _ is))

pub cut_item : (place : ℕ) (bytes : List ℕ) → nat_eq (length bytes) 0 ≡ false → entry_at_front bytes ≡ None → items_at place bytes ≡ Err (Cut place) ∷ items_at place []
cut_item place [] is none = absurd cc
cut_item place (b ∷ bytes) is none =
    items-stuck (length bytes) place b bytes none ∙ ap (λ (xs : List Item). Err (Cut place) ∷ xs) (sym (items-nil 0 place))

pub entry_item : (place : ℕ) (bytes : List ℕ) (found : Front) → entry_at_front bytes ≡ Some found
    → items_at place bytes ≡ ok_item found.0 ∷ items_at (place + (8 + length found.0.value)) found.1
entry_item place bytes found some =
    let fewer = front-length bytes found some in
    let there : place + 8 + length found.0.value ≡ place + (8 + length found.0.value) = omega arith in
    same_items (length bytes) (suc (length bytes)) place bytes (omega arith) (omega arith)
    ∙ items_more (length bytes) place bytes found (omega arith) some
    ∙ ap (λ (xs : List Item). ok_item found.0 ∷ xs)
    (same_items (length bytes) (length found.1) (place + 8 + length found.0.value) found.1 (omega (arith, fewer)) (omega arith)
    ∙ ap (λ (p : ℕ). items_at p found.1) there)

item_length_by : (place : ℕ) (bytes : List ℕ) (e : EntryValue) (items : List Item) (r : Option Front) → nat_eq (length bytes) 0 ≡ false → entry_at_front bytes ≡ r
    → items_at place bytes ≡ ok_item e ∷ items → length e.value ≤ length bytes
item_length_by place bytes e items None some is gives =
    let cut = sym (cut_item place bytes some is) ∙ gives in absurd cc
item_length_by place bytes e items (Some found) some is gives =
    let same = sym (entry_item place bytes found is) ∙ gives in
    let one : ok_item found.0 ≡ ok_item e = cc in
    let value : found.0 ≡ e = cc in
    omega (arith, front-length bytes found is, ap (λ (x : EntryValue). length x.value) value)

-- an entry that is given has no more bytes than are left
pub item_length : (place : ℕ) (bytes : List ℕ) (e : EntryValue) (items : List Item) → items_at place bytes ≡ ok_item e ∷ items → length e.value ≤ length bytes
item_length place [] e items gives = let none = sym (items-nil 0 place) ∙ gives in absurd cc
item_length place (b ∷ bytes) e items gives = item_length_by place (b ∷ bytes) e items (entry_at_front (b ∷ bytes)) (grind (arith, nat_tests)) refl gives

-- ---- the laws

with_nil : {bytes : List ℕ} {es : List EntryValue} → Spells bytes es → bytes ≡ spelled_entries_of es ++ []
with_nil {es = es} s = s.spelled ∙ sym (append-nil (spelled_entries_of es))

pub one_spelled : (bytes : List ℕ) (es fs : List EntryValue) → Spells bytes es → Spells bytes fs → es ≡ fs
one_spelled bytes es fs s t = (one_walk es fs [] [] s.each t.each stuck-nil stuck-nil (sym (with_nil s) ∙ with_nil t)).0

pub not_both_of : (bytes : List ℕ) (n : ℕ) (es fs : List EntryValue) → Spells bytes es → IsCutAt bytes n fs → ⊥
not_both_of bytes n es fs s c =
    c.some (sym (one_walk es fs [] c.rest s.each c.each stuck-nil c.no_entry (sym (with_nil s) ∙ c.split)).1)

pub one_cut_of : (bytes : List ℕ) (m n : ℕ) (es fs : List EntryValue) → IsCutAt bytes m es → IsCutAt bytes n fs → (m ≡ n) × (es ≡ fs)
one_cut_of bytes m n es fs c d =
    let same = (one_walk es fs c.rest d.rest c.each d.each c.no_entry d.no_entry (sym c.split ∙ d.split)).0 in
    (c.place ∙ ap (λ (xs : List EntryValue). length (spelled_entries_of xs)) same ∙ sym d.place, same)

abbrev pub SpelledOrCut : List ℕ → Type 0
SpelledOrCut bytes = ((es : List EntryValue) × Spells bytes es) ⊎ ((n : ℕ) × (es : List EntryValue) × IsCutAt bytes n es)

either_of : (bytes : List ℕ) (es : List EntryValue) (rest : List ℕ) → AllByRecursion IsEntry es → bytes ≡ spelled_entries_of es ++ rest → IsStuck rest → SpelledOrCut bytes
either_of bytes es [] each split stuck = inl (es, record { each = each; spelled = split ∙ append-nil (spelled_entries_of es) })
either_of bytes es (b ∷ rest) each split stuck =
    inr (
      length (spelled_entries_of es),
      es,
      record { each = each; rest = b ∷ rest; split = split; place = refl; some = λ e. absurd cc; no_entry = stuck },
    )

pub spelled_or_cut_by : (bytes : List ℕ) → Walk bytes → SpelledOrCut bytes
spelled_or_cut_by bytes walk = either_of bytes walk.es walk.rest walk.each walk.split walk.stuck
