-- What holds of the table after a call.
use Rattle.std.proofs.Common.{◌≡◌, ◌≤◌, true, false, List, [], ◌∷◌, ◌++◌, length, Option, Some, None, refl, sym, ap, ◌∙◌, arith, length-append}
use Rattle.std.specs.Prelude.{if◌then◌else◌, nat_lt, int_lt}
use Rattle.std.specs.List.{AllByRecursion}
use Rattle.std.proofs.lemmas.Bool.Decides.{nat_tests}
use Rattle.lk_base.specs.IdOrder.{same_id}
use Rattle.lk_base.specs.Timeline.{IsTidy}
use Rattle.lk_base.specs.declared.ids.NodeId.{NodeId}
use Rattle.lk_base.specs.declared.timeline.Timeline.{Timeline}
use Rattle.session_choice.specs.Changes.{key_of, saw_held, latest_of, held_after, saw_row, saw_other_of, row_after, others_after, known_by}
use Rattle.session_choice.specs.Keyed.{found_by, updated_by}
use Rattle.session_choice.specs.Table.{Table, AreDistinct}
use Rattle.session_choice.specs.declared.known.Known.{Known}
use Rattle.session_choice.specs.declared.verdict.Saw.TheVariants.{Taken, Kept, New, Full}
use Rattle.session_choice.proofs.DistinctLemmas.{all_updated, length-updated, distinct-updated, distinct-pushed}
use Rattle.session_choice.proofs.Lists.{by_test, all_append}
use Rattle.session_choice.proofs.TableLemmas.{saw_in, seen_in}

-- ---- one timeline more

latest_by : (P : Timeline → Type 0) (held seen : Timeline) → P held → P seen → P (latest_of held seen)
latest_by P held seen p q = by_test (λ b. P (if b then seen else held)) (int_lt held.beat seen.beat) (λ _. q) (λ _. p)

-- where the answer is Kept, the row stays
kept_row : (known : Known) (seen : Timeline) → saw_held known seen ≡ Kept → held_after seen known ≡ known
kept_row known seen is =
    by_test (λ b. (if b then Taken else Kept) ≡ Kept → record known { timeline = if b then seen else known.timeline } ≡ known) (int_lt known.timeline.beat seen.beat)
    (λ _ e. cc) (λ _ _. refl) is

pub not_full : (current : Known) (seen : Timeline) → saw_held current seen ≡ Full → ⊥
not_full current seen is = by_test (λ b. (if b then Taken else Kept) ≡ Full → ⊥) (int_lt current.timeline.beat seen.beat) (λ _ e. cc) (λ _ e. cc) is

same_updated : (id : NodeId) (f : Known → Known) (rows : List Known) (known : Known) → found_by key_of id rows ≡ Some known → f known ≡ known → updated_by key_of id f rows ≡ rows
same_updated id f [] known found same = refl
same_updated id f (row ∷ rows) known found same =
    by_test (λ b. (if b then Some row else found_by key_of id rows) ≡ Some known → (if b then f row ∷ rows else row ∷ updated_by key_of id f rows) ≡ row ∷ rows) (same_id row.session id)
    (λ _ is. let e : row ≡ known = cc in ap (λ x. x ∷ rows) (ap f e ∙ same ∙ sym e)) (λ _ is. ap (λ l. row ∷ l) (same_updated id f rows known is same)) found

-- ---- the others after a timeline that was seen

by_found : (P : Option Known → Type 0) (found : Option Known) → (found ≡ None → P None) → ((known : Known) → found ≡ Some known → P (Some known)) → P found
by_found P None none some = none refl
by_found P (Some known) none some = some known refl

pub few_others : (session : NodeId) (seen : Timeline) (others : List Known) → length others ≤ 64 → length (others_after others session seen) ≤ 64
unfolding others_after
few_others session seen others few =
    by_found (λ found. length (row_after found others session seen) ≤ 64) (found_by key_of session others)
    (λ _. by_test (λ b. nat_lt (length others) 64 ≡ b → length (if b then others ++ known_by session seen ∷ [] else others) ≤ 64) (nat_lt (length others) 64)
    (λ _ is. grind (arith, nat_tests, length-append others (known_by session seen ∷ []))) (λ _ _. few) refl)
    (λ known _. rw length-updated few)

pub distinct_others : (session : NodeId) (seen : Timeline) (current : Known) (others : List Known) → same_id current.session session ≡ false → AreDistinct (current ∷ others)
    → AreDistinct (current ∷ others_after others session seen)
unfolding others_after
distinct_others session seen current others other all =
    by_found (λ found. AreDistinct (current ∷ row_after found others session seen)) (found_by key_of session others)
    (λ none. by_test (λ b. AreDistinct (current ∷ (if b then others ++ known_by session seen ∷ [] else others))) (nat_lt (length others) 64)
    (λ _. distinct-pushed current (known_by session seen) others all other none) (λ _. all))
    (λ known _. distinct-updated session (held_after seen) (λ k. refl) current others all)

abbrev IsTidyRow : Known → Type 0
IsTidyRow known = IsTidy known.timeline

pub tidy_row : (seen : Timeline) (known : Known) → IsTidy seen → IsTidy known.timeline → IsTidy (held_after seen known).timeline
tidy_row seen known new held = latest_by IsTidy known.timeline seen held new

pub tidy_others : (session : NodeId) (seen : Timeline) (others : List Known) → IsTidy seen → AllByRecursion IsTidyRow others
    → AllByRecursion IsTidyRow (others_after others session seen)
unfolding others_after
tidy_others session seen others new all =
    by_found (λ found. AllByRecursion IsTidyRow (row_after found others session seen)) (found_by key_of session others)
    (λ _. by_test (λ b. AllByRecursion IsTidyRow (if b then others ++ known_by session seen ∷ [] else others)) (nat_lt (length others) 64)
    (λ _. all_append IsTidyRow others (known_by session seen ∷ []) all (new, tt)) (λ _. all))
    (λ known _. all_updated session IsTidyRow (held_after seen) (λ k held. tidy_row seen k new held) others all)

pub kept_others : (session : NodeId) (seen : Timeline) (others : List Known) → saw_other_of others session seen ≡ Kept → others_after others session seen ≡ others
unfolding others_after saw_other_of
kept_others session seen others is =
    by_found (λ found. saw_row found others seen ≡ Kept → found_by key_of session others ≡ found → row_after found others session seen ≡ others) (found_by key_of session others)
    (λ _ e _. absurd (by_test (λ b. (if b then New else Full) ≡ Kept → ⊥) (nat_lt (length others) 64) (λ _ e. cc) (λ _ e. cc) e))
    (λ known _ e found. same_updated session (held_after seen) others known found (kept_row known seen e)) is refl

pub full_others : (session : NodeId) (seen : Timeline) (others : List Known) → saw_other_of others session seen ≡ Full → others_after others session seen ≡ others
unfolding others_after saw_other_of
full_others session seen others is =
    by_found (λ found. saw_row found others seen ≡ Full → row_after found others session seen ≡ others) (found_by key_of session others)
    (λ _ e. by_test (λ b. (if b then New else Full) ≡ Full → (if b then others ++ known_by session seen ∷ [] else others) ≡ others) (nat_lt (length others) 64) (λ _ e. cc) (λ _ _. refl) e)
    (λ known _ e. absurd (not_full known seen e)) is

-- ---- the two cases of a call

pub saw_in-current : (session : NodeId) (seen : Timeline) (table : Table) → same_id table.current.session session ≡ true → saw_held table.current seen ≡ saw_in session seen table
saw_in-current session seen table same = rw same refl

pub saw_in-other : (session : NodeId) (seen : Timeline) (table : Table) → same_id table.current.session session ≡ false → saw_other_of table.others session seen ≡ saw_in session seen table
saw_in-other session seen table other = rw other refl

pub seen_in-current : (session : NodeId) (seen : Timeline) (table : Table) → same_id table.current.session session ≡ true
    → record table { current = held_after seen table.current } ≡ seen_in session seen table
seen_in-current session seen table same = rw same refl

pub seen_in-other : (session : NodeId) (seen : Timeline) (table : Table) → same_id table.current.session session ≡ false
    → record table { others = others_after table.others session seen } ≡ seen_in session seen table
seen_in-other session seen table other = rw other refl
