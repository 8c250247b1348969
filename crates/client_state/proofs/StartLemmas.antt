-- Which of several starts is the first of greatest stamp, as they come.
use Rattle.std.proofs.Common.{◌≡◌, ℤ, ◌<ℤ◌, ◌≤ℤ◌, int_le, Bool, true, false, ◌&&◌, cond, List, [], ◌∷◌, ◌++◌, Some, None, unwrap_or, refl, ap, sym, ◌∙◌, arith, append_assoc, append-nil}
use Rattle.std.proofs.lemmas.Int.{ints, by_lt_z}
use Rattle.std.proofs.lemmas.List.Folds.{list_all-append}
use Rattle.std.specs.List.{find, list_all}
use Rattle.lk_base.specs.declared.start.SessionStart.{SessionStart}
use Rattle.ghost_xform.proofs.CountLemmas.{le_true, le_false}
use Rattle.client_state.specs.Starts.{is_latest_in, latest_start_of}
use Rattle.client_state.proofs.BoolLemmas.{both, and-false}

-- ---- lists
-- what one test finds, another finds too that passes nothing more before it: at the first element
kept_at : {X : Type 0} (p q : X → Bool) (x : X) (xs ys : List X) (h : X) (b : Bool) → p x ≡ b → (p x ≡ false → q x ≡ false) → (find p xs ≡ Some h → find q (xs ++ ys) ≡ Some h) → find p (x ∷ xs) ≡ Some h → q h ≡ true → find q (x ∷ xs ++ ys) ≡ Some h
kept_at p q x xs ys h true first fewer rest found passes =
    let here : Some x ≡ Some h = sym (ap (λ b. cond b (Some x) (find p xs)) first) ∙ found in
    let same : x ≡ h = cc in
    ap (λ b. cond b (Some x) (find q (xs ++ ys))) (ap q same ∙ passes) ∙ here
kept_at p q x xs ys h false first fewer rest found passes =
    let later : find p xs ≡ Some h = sym (ap (λ b. cond b (Some x) (find p xs)) first) ∙ found in
    ap (λ b. cond b (Some x) (find q (xs ++ ys))) (fewer first) ∙ rest later

find-kept : {X : Type 0} (p q : X → Bool) (xs ys : List X) (h : X) → ((x : X) → p x ≡ false → q x ≡ false) → find p xs ≡ Some h → q h ≡ true → find q (xs ++ ys) ≡ Some h
find-kept p q [] ys h fewer found passes = absurd (cc)
find-kept p q (x ∷ xs) ys h fewer found passes =
    kept_at p q x xs ys h (p x) refl (fewer x) (λ later. find-kept p q xs ys h fewer later passes) found passes

-- a test that passes none of the first elements finds what it finds of the others
find-skip : {X : Type 0} (r q : X → Bool) (xs ys : List X) → ((x : X) → r x ≡ true → q x ≡ false) → list_all r xs ≡ true → find q (xs ++ ys) ≡ find q ys
find-skip r q [] ys none all = refl
find-skip r q (x ∷ xs) ys none all =
    let tests = both (r x) (list_all r xs) all in
    ap (λ b. cond b (Some x) (find q (xs ++ ys))) (none x tests.0) ∙ find-skip r q xs ys none tests.1

list_all-weaker : {X : Type 0} (r q : X → Bool) (xs : List X) → ((x : X) → r x ≡ true → q x ≡ true) → list_all r xs ≡ true → list_all q xs ≡ true
list_all-weaker r q [] weaker all = refl
list_all-weaker r q (x ∷ xs) weaker all =
    let tests = both (r x) (list_all r xs) all in
    ap (λ b. b && list_all q xs) (weaker x tests.0) ∙ list_all-weaker r q xs weaker tests.1

-- ---- stamps
le_from : (a b : ℤ) → int_le a b ≡ true → a ≤ℤ b
le_from a b e = omega (arith, ints)

-- ---- the latest start
record IsFound (list : List SessionStart) (start : SessionStart) : Type 0 where
  pub found : find (is_latest_in list) list ≡ Some start
  pub greatest : is_latest_in list start ≡ true

latest-more : (list : List SessionStart) (next start : SessionStart) → is_latest_in (list ++ next ∷ []) start ≡ (is_latest_in list start && (int_le next.stamp start.stamp && true))
latest-more list next start = list_all-append (λ other. int_le other.stamp start.stamp) list (next ∷ [])

found-kept : (list : List SessionStart) (next start : SessionStart) → next.stamp ≤ℤ start.stamp → IsFound list start → IsFound (list ++ next ∷ []) start
found-kept list next start le held =
    let last : (int_le next.stamp start.stamp && true) ≡ true = ap (λ b. b && true) (le_true next.stamp start.stamp le) in
    let greatest : is_latest_in (list ++ next ∷ []) start ≡ true =
    latest-more list next start ∙ ap (λ b. b && (int_le next.stamp start.stamp && true)) held.greatest ∙ last in
    let fewer : (x : SessionStart) → is_latest_in list x ≡ false → is_latest_in (list ++ next ∷ []) x ≡ false =
    λ x not. latest-more list next x ∙ ap (λ b. b && (int_le next.stamp x.stamp && true)) not in
    record {
      found = find-kept (is_latest_in list) (is_latest_in (list ++ next ∷ [])) list (next ∷ []) start fewer held.found greatest;
      greatest = greatest;
    }

found-next : (list : List SessionStart) (next start : SessionStart) → start.stamp <ℤ next.stamp → IsFound list start → IsFound (list ++ next ∷ []) next
found-next list next start lt held =
    let below : SessionStart → Bool = λ other. int_le other.stamp start.stamp in
    let all_below : list_all (λ other. int_le other.stamp next.stamp) list ≡ true =
    list_all-weaker below (λ other. int_le other.stamp next.stamp) list
    (λ x le. let low = le_from x.stamp start.stamp le in le_true x.stamp next.stamp (omega (arith, ints)))
    held.greatest in
    let last : (int_le next.stamp next.stamp && true) ≡ true = ap (λ b. b && true) (le_true next.stamp next.stamp (omega (arith, ints))) in
    let greatest : is_latest_in (list ++ next ∷ []) next ≡ true =
    latest-more list next next ∙ ap (λ b. b && (int_le next.stamp next.stamp && true)) all_below ∙ last in
    let none : (x : SessionStart) → below x ≡ true → is_latest_in (list ++ next ∷ []) x ≡ false =
    λ x le.
    let low = le_from x.stamp start.stamp le in
    latest-more list next x
    ∙ ap (λ b. is_latest_in list x && (b && true)) (le_false next.stamp x.stamp (omega (arith, ints)))
    ∙ and-false (is_latest_in list x) in
    record {
      found =
          find-skip below (is_latest_in (list ++ next ∷ [])) list (next ∷ []) none held.greatest
          ∙ ap (λ b. cond b (Some next) None) greatest;
      greatest = greatest;
    }

-- one is found of each list that isn't empty, as it grows
found-some : (list later : List SessionStart) (start : SessionStart) → IsFound list start → (latest : SessionStart) × IsFound (list ++ later) latest
found-some list [] start held = (start, rw (append-nil list) held)
found-some list (next ∷ later) start held =
    by_lt_z start.stamp next.stamp
    (λ lt.
    let more = found-some (list ++ next ∷ []) later next (found-next list next start lt held) in
    (more.0, rw (sym (append_assoc list (next ∷ []) later)) more.1))
    (λ le.
    let more = found-some (list ++ next ∷ []) later start (found-kept list next start le held) in
    (more.0, rw (sym (append_assoc list (next ∷ []) later)) more.1))

first-found : (first : SessionStart) → IsFound (first ∷ []) first
first-found first =
    let greatest : is_latest_in (first ∷ []) first ≡ true = ap (λ b. b && true) (le_true first.stamp first.stamp (omega (arith, ints))) in
    record { found = ap (λ b. cond b (Some first) None) greatest; greatest = greatest }

held-found : (held first : SessionStart) (later : List SessionStart) → held ≡ latest_start_of first later → IsFound (first ∷ later) held
unfolding latest_start_of
held-found held first later e =
    let some = found-some (first ∷ []) later first (first-found first) in
    let same : latest_start_of first later ≡ some.0 = ap (λ o. unwrap_or o first) some.1.found in
    rw (e ∙ same) some.1

found-latest : (start first : SessionStart) (later : List SessionStart) → IsFound (first ∷ later) start → start ≡ latest_start_of first later
unfolding latest_start_of
found-latest start first later held = sym (ap (λ o. unwrap_or o first) held.found)

pub later-seen : (held seen first : SessionStart) (later : List SessionStart) → held.stamp <ℤ seen.stamp → held ≡ latest_start_of first later → seen ≡ latest_start_of first (later ++ seen ∷ [])
later-seen held seen first later lt e =
    found-latest seen first (later ++ seen ∷ []) (found-next (first ∷ later) seen held lt (held-found held first later e))

pub later-held : (held seen first : SessionStart) (later : List SessionStart) → seen.stamp ≤ℤ held.stamp → held ≡ latest_start_of first later → held ≡ latest_start_of first (later ++ seen ∷ [])
later-held held seen first later le e =
    found-latest held first (later ++ seen ∷ []) (found-kept (first ∷ later) seen held le (held-found held first later e))
