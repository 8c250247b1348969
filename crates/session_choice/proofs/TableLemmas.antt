-- What each call makes of the table, and that this is what it makes of the history.
use Rattle.std.proofs.Common.{◌≡◌, ℕ, zero, suc, ℤ, ◌<ℤ◌, Bool, false, ◌⊎◌, inl, inr, List, [], ◌∷◌, ◌++◌, length, map, Option, Some, None, refl, sym, ap, subst, ◌∙◌}
use Rattle.std.specs.Prelude.{if◌then◌else◌, nat_lt, int_lt, option_map, is_some, slice_get}
use Rattle.std.proofs.lemmas.List.{map-append, length-map}
use Rattle.lk_base.specs.IdOrder.{same_id}
use Rattle.lk_base.specs.declared.ids.NodeId.{NodeId}
use Rattle.lk_base.specs.declared.timeline.Timeline.{Timeline}
use Rattle.session_choice.specs.Changes.{key_of, saw_held, latest_of, held_after, saw_row, saw_other_of, row_after, others_after, known_by}
use Rattle.session_choice.specs.History.{Taking, History, StandsFor, best_in, known_of, session_of, with_taken, begun, other_in, known_in, saw_by, saw_of, taken_by, saw_after, verdict_by, measured_of, joined, measured_by, measured_after, forgotten, committed}
use Rattle.session_choice.specs.Keyed.{found_by, updated_by, without_by}
use Rattle.session_choice.specs.Table.{Table}
use Rattle.session_choice.specs.Winning.{wins_over}
use Rattle.session_choice.specs.declared.known.Known.{Known}
use Rattle.session_choice.specs.declared.verdict.Saw.{Saw}
use Rattle.session_choice.specs.declared.verdict.Verdict.{Verdict}
use Rattle.session_choice.specs.declared.verdict.Verdict.TheVariants.{Joined, Stayed, Remeasured, Unknown}
use Rattle.session_choice.proofs.BestLemmas.{best_of-append, best_of-one, true-int_lt}
use Rattle.session_choice.proofs.KeyedLemmas.{map-found, map-updated, map-without}
use Rattle.session_choice.proofs.Lists.{by_test}

-- ---- a history's table

abbrev pub table_for : History → Table
table_for h = record { current = known_of h.current; offset = h.offset; others = map known_of h.others }

abbrev table_with : Known → ℤ → List Known → Table
table_with current offset others = record { current = current; offset = offset; others = others }

is_table : (table : Table) (h : History) → StandsFor table h → table ≡ table_for h
is_table table h stands =
    ap (λ current. table_with current table.offset table.others) stands.current
    ∙ ap (λ offset. table_with (known_of h.current) offset table.others) stands.offset
    ∙ ap (λ others. table_with (known_of h.current) h.offset others) stands.others

stands_itself : (h : History) → StandsFor (table_for h) h
stands_itself h = record { current = refl; offset = refl; others = refl }

-- an answer that is a function of the table is that of the history
pub answer_for : {R : Type 0} (f : Table → R) (g : History → R) → ((h : History) → g h ≡ f (table_for h)) → (table : Table) (r : R) → r ≡ f table
    → (h : History) → StandsFor table h → r ≡ g h
answer_for f g same table r is h stands = is ∙ ap f (is_table table h stands) ∙ sym (same h)

-- and so is what the table is afterwards
pub stands_for : (f : Table → Table) (g : History → History) → ((h : History) → table_for (g h) ≡ f (table_for h)) → (table new : Table) → new ≡ f table
    → (h : History) → StandsFor table h → StandsFor new (g h)
stands_for f g same table new is h stands =
    subst (λ (t : Table). StandsFor t (g h)) (sym (is ∙ ap f (is_table table h stands) ∙ sym (same h))) (stands_itself (g h))

-- ---- one more timeline

known_after : (taking : Taking) (seen : Timeline) → known_of (with_taken seen taking) ≡ held_after seen (known_of taking)
known_after taking seen = ap (λ tl. known_by taking.session tl) (best_of-append taking.first taking.later seen)

pub known_begun : (session : NodeId) (seen : Timeline) → known_of (begun session seen) ≡ known_by session seen
known_begun session seen = ap (λ tl. known_by session tl) (best_of-one seen)

found_for : (session : NodeId) (h : History) → found_by key_of session (map known_of h.others) ≡ option_map known_of (other_in session h)
found_for session h = map-found session_of key_of session known_of (λ _. refl) h.others

-- ---- a timeline that was seen

abbrev pub saw_in : NodeId → Timeline → Table → Saw
saw_in session seen table = if same_id table.current.session session then saw_held table.current seen else saw_other_of table.others session seen

abbrev pub seen_in : NodeId → Timeline → Table → Table
seen_in session seen table =
    if same_id table.current.session session then record table { current = held_after seen table.current }
    else record table { others = others_after table.others session seen }

saw_found : (h : History) (seen : Timeline) (found : Option Taking) → saw_by found h seen ≡ saw_row (option_map known_of found) (map known_of h.others) seen
saw_found h seen (Some taking) = refl
saw_found h seen None = rw length-map refl

saw_others : (session : NodeId) (seen : Timeline) (h : History) → saw_by (other_in session h) h seen ≡ saw_other_of (map known_of h.others) session seen
unfolding saw_other_of
saw_others session seen h = rw (found_for session h) (saw_found h seen (other_in session h))

pub saw_for : (session : NodeId) (seen : Timeline) (h : History) → saw_of h session seen ≡ saw_in session seen (table_for h)
unfolding saw_of
saw_for session seen h =
    by_test (λ b. saw_by (if b then Some h.current else other_in session h) h seen ≡ (if b then saw_held (known_of h.current) seen else saw_other_of (map known_of h.others) session seen)) (same_id h.current.session session)
    (λ _. refl) (λ _. saw_others session seen h)

others_found : (session : NodeId) (seen : Timeline) (h : History) (found : Option Taking)
    → table_for (taken_by found h session seen) ≡ record (table_for h) { others = row_after (option_map known_of found) (map known_of h.others) session seen }
others_found session seen h (Some taking) =
    ap (λ others. table_with (known_of h.current) h.offset others)
    (map-updated session_of key_of session known_of (λ _. refl) (with_taken seen) (held_after seen) (λ t. known_after t seen) h.others)
others_found session seen h None =
    rw (length-map h.others known_of)
    (by_test (λ b. table_for (if b then record h { others = h.others ++ begun session seen ∷ [] } else h)
    ≡ record (table_for h) { others = if b then map known_of h.others ++ known_by session seen ∷ [] else map known_of h.others }) (nat_lt (length h.others) 64)
    (λ _. ap (λ others. table_with (known_of h.current) h.offset others)
    (map-append known_of h.others (begun session seen ∷ []) ∙ ap (λ known. map known_of h.others ++ known ∷ []) (known_begun session seen)))
    (λ _. refl))

others_for : (session : NodeId) (seen : Timeline) (h : History)
    → table_for (taken_by (other_in session h) h session seen) ≡ record (table_for h) { others = others_after (map known_of h.others) session seen }
unfolding others_after
others_for session seen h = rw (found_for session h) (others_found session seen h (other_in session h))

pub seen_for : (session : NodeId) (seen : Timeline) (h : History) → table_for (saw_after h session seen) ≡ seen_in session seen (table_for h)
unfolding saw_after
seen_for session seen h =
    by_test (λ b. table_for (if b then record h { current = with_taken seen h.current } else taken_by (other_in session h) h session seen)
    ≡ (if b then record (table_for h) { current = held_after seen (known_of h.current) } else record (table_for h) { others = others_after (map known_of h.others) session seen }))
    (same_id h.current.session session)
    (λ _. ap (λ current. table_with current h.offset (map known_of h.others)) (known_after h.current seen)) (λ _. others_for session seen h)

-- ---- the timeline of a session

abbrev pub timeline_in : NodeId → Table → Option Timeline
timeline_in session table = option_map (λ known. known.timeline) (if same_id table.current.session session then Some table.current else found_by key_of session table.others)

best_found : (found : Option Taking) → option_map best_in found ≡ option_map (λ known. known.timeline) (option_map known_of found)
best_found (Some taking) = refl
best_found None = refl

pub timeline_for : (session : NodeId) (h : History) → option_map best_in (known_in session h) ≡ timeline_in session (table_for h)
timeline_for session h =
    by_test (λ b. option_map best_in (if b then Some h.current else other_in session h)
    ≡ option_map (λ known. known.timeline) (if b then Some (known_of h.current) else found_by key_of session (map known_of h.others))) (same_id h.current.session session)
    (λ _. refl) (λ _. rw (found_for session h) (best_found (other_in session h)))

-- ---- an offset that was measured

abbrev verdict_row : Option Known → Table → ℤ → ℤ → Verdict
verdict_row (Some known) table offset now = if wins_over known.session offset table.current.session table.offset now then Joined else Stayed
verdict_row None table offset now = Unknown

abbrev pub verdict_in : NodeId → ℤ → ℤ → Table → Verdict
verdict_in session offset now table =
    if same_id table.current.session session then Remeasured else verdict_row (found_by key_of session table.others) table offset now

verdict_found : (offset now : ℤ) (h : History) (found : Option Taking) → verdict_by found h offset now ≡ verdict_row (option_map known_of found) (table_for h) offset now
verdict_found offset now h (Some taking) = refl
verdict_found offset now h None = refl

pub verdict_for : (session : NodeId) (offset now : ℤ) (h : History) → measured_of h session offset now ≡ verdict_in session offset now (table_for h)
unfolding measured_of
verdict_for session offset now h =
    by_test (λ b. (if b then Remeasured else verdict_by (other_in session h) h offset now)
    ≡ (if b then Remeasured else verdict_row (found_by key_of session (map known_of h.others)) (table_for h) offset now)) (same_id h.current.session session)
    (λ _. refl) (λ _. rw (found_for session h) (verdict_found offset now h (other_in session h)))

abbrev pub joined_in : Known → ℤ → Table → Table
joined_in known offset table = record { current = known; offset = offset; others = updated_by key_of known.session (λ _. table.current) table.others }

abbrev measured_row : Option Known → Table → ℤ → ℤ → Table
measured_row (Some known) table offset now = if wins_over known.session offset table.current.session table.offset now then joined_in known offset table else table
measured_row None table offset now = table

abbrev pub measured_in : NodeId → ℤ → ℤ → Table → Table
measured_in session offset now table =
    if same_id table.current.session session then record table { offset = offset } else measured_row (found_by key_of session table.others) table offset now

joined_for : (taking : Taking) (offset : ℤ) (h : History) → table_for (joined taking offset h) ≡ joined_in (known_of taking) offset (table_for h)
joined_for taking offset h =
    ap (λ others. table_with (known_of taking) offset others)
    (map-updated session_of key_of taking.session known_of (λ _. refl) (λ _. h.current) (λ _. known_of h.current) (λ _. refl) h.others)

measured_found : (offset now : ℤ) (h : History) (found : Option Taking)
    → table_for (measured_by found h offset now) ≡ measured_row (option_map known_of found) (table_for h) offset now
measured_found offset now h (Some taking) =
    by_test (λ b. table_for (if b then joined taking offset h else h) ≡ (if b then joined_in (known_of taking) offset (table_for h) else table_for h))
    (wins_over taking.session offset h.current.session h.offset now)
    (λ _. joined_for taking offset h) (λ _. refl)
measured_found offset now h None = refl

pub measured_for : (session : NodeId) (offset now : ℤ) (h : History) → table_for (measured_after h session offset now) ≡ measured_in session offset now (table_for h)
unfolding measured_after
measured_for session offset now h =
    by_test (λ b. table_for (if b then record h { offset = offset } else measured_by (other_in session h) h offset now)
    ≡ (if b then record (table_for h) { offset = offset } else measured_row (found_by key_of session (map known_of h.others)) (table_for h) offset now)) (same_id h.current.session session)
    (λ _. refl) (λ _. rw (found_for session h) (measured_found offset now h (other_in session h)))

-- ---- a session that is forgotten

abbrev pub forgot_in : NodeId → Table → Bool
forgot_in session table = is_some (found_by key_of session table.others)

abbrev pub forgotten_in : NodeId → Table → Table
forgotten_in session table = record table { others = without_by key_of session table.others }

some_found : (found : Option Taking) → is_some found ≡ is_some (option_map known_of found)
some_found (Some taking) = refl
some_found None = refl

pub forgot_for : (session : NodeId) (h : History) → is_some (other_in session h) ≡ forgot_in session (table_for h)
forgot_for session h = rw (found_for session h) (some_found (other_in session h))

pub forgotten_for : (session : NodeId) (h : History) → table_for (forgotten session h) ≡ forgotten_in session (table_for h)
forgotten_for session h =
    ap (λ others. table_with (known_of h.current) h.offset others) (map-without session_of key_of session known_of (λ _. refl) h.others)

-- ---- a timeline that was committed

abbrev pub committed_in : Timeline → Table → Table
committed_in seen table = record table { current = held_after seen table.current }

pub committed_for : (seen : Timeline) (h : History) → table_for (committed seen h) ≡ committed_in seen (table_for h)
committed_for seen h = ap (λ current. table_with current h.offset (map known_of h.others)) (known_after h.current seen)

held_is : (held seen : Timeline) → int_lt held.beat seen.beat ≡ false → (seen ≡ held) ⊎ (held.beat <ℤ seen.beat) → held ≡ seen
held_is held seen is (inl same) = sym same
held_is held seen is (inr lt) = cc (true-int_lt held.beat seen.beat lt)

pub latest_is : (held seen : Timeline) → (seen ≡ held) ⊎ (held.beat <ℤ seen.beat) → latest_of held seen ≡ seen
latest_is held seen later =
    by_test (λ b. int_lt held.beat seen.beat ≡ b → (if b then seen else held) ≡ seen) (int_lt held.beat seen.beat)
    (λ _ _. refl) (λ _ is. held_is held seen is later) refl

pub committed_best : (seen : Timeline) (table : Table) (h : History) → StandsFor table h
    → (seen ≡ table.current.timeline) ⊎ (table.current.timeline.beat <ℤ seen.beat) → best_in (with_taken seen h.current) ≡ seen
committed_best seen table h stands later =
    let held : table.current.timeline ≡ best_in h.current = ap (λ known. known.timeline) stands.current in
    best_of-append h.current.first h.current.later seen ∙ ap (λ tl. latest_of tl seen) (sym held) ∙ latest_is table.current.timeline seen later

-- ---- the others by their places

get_map : (others : List Taking) (k : ℕ) → slice_get (map known_of others) k ≡ option_map known_of (slice_get others k)
get_map [] k = refl
get_map (taking ∷ others) zero = refl
get_map (taking ∷ others) (suc k) = get_map others k

pub known_at : (table : Table) (h : History) (k : ℕ) (taking : Taking) → StandsFor table h → slice_get h.others k ≡ Some taking → slice_get table.others k ≡ Some (known_of taking)
known_at table h k taking stands at = ap (λ others. slice_get others k) stands.others ∙ get_map h.others k ∙ ap (option_map known_of) at

pub timeline_in-other : (session : NodeId) (table : Table) (found : Option Known) → same_id table.current.session session ≡ false → found_by key_of session table.others ≡ found
    → option_map (λ known. known.timeline) found ≡ timeline_in session table
timeline_in-other session table found other is = rw (other, is) refl
