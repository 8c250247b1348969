-- The first of greatest beat origin, and one more timeline.
use Rattle.std.proofs.Common.{◌≡◌, ℤ, ◌<ℤ◌, ◌≤ℤ◌, true, false, List, [], ◌∷◌, ◌++◌, Some, refl, sym, ap, subst, ◌∙◌, append_assoc, arith}
use Rattle.std.specs.Prelude.{int_lt, int_le, if◌then◌else◌, unwrap_or}
use Rattle.std.specs.List.{AllByRecursion, find}
use Rattle.std.proofs.lemmas.Int.{ints}
use Rattle.std.proofs.lemmas.List.{append-nil}
use Rattle.lk_base.specs.declared.timeline.Timeline.{Timeline}
use Rattle.session_choice.specs.Best.{IsBest, best_of, is_greatest_in}
use Rattle.session_choice.specs.Changes.{latest_of}
use Rattle.session_choice.proofs.Lists.{by_test, all_append, all_weaken, list_all-true, list_all-false, find_between}

pub int_lt-true : (a b : ℤ) → int_lt a b ≡ true → a <ℤ b
int_lt-true a b is = grind (arith, ints)

pub int_lt-false : (a b : ℤ) → int_lt a b ≡ false → b ≤ℤ a
int_lt-false a b is = grind (arith, ints)

pub true-int_lt : (a b : ℤ) → a <ℤ b → int_lt a b ≡ true
true-int_lt a b lt = grind (arith, ints)

true-int_le : (a b : ℤ) → a ≤ℤ b → int_le a b ≡ true
true-int_le a b le = grind (arith, ints)

false-int_le : (a b : ℤ) → b <ℤ a → int_le a b ≡ false
false-int_le a b lt = grind (arith, ints)

lt_trans : (a b c : ℤ) → a <ℤ b → b <ℤ c → a <ℤ c
lt_trans a b c p q = omega (arith, ints)

le_lt_trans : (a b c : ℤ) → a ≤ℤ b → b <ℤ c → a <ℤ c
le_lt_trans a b c p q = omega (arith, ints)

lt_le : (a b : ℤ) → a <ℤ b → a ≤ℤ b
lt_le a b p = omega (arith, ints)

le_refl : (a : ℤ) → a ≤ℤ a
le_refl a = omega (arith, ints)

abbrev IsBelow : ℤ → Timeline → Type 0
IsBelow beat tl = tl.beat <ℤ beat

abbrev IsUpTo : ℤ → Timeline → Type 0
IsUpTo beat tl = tl.beat ≤ℤ beat

-- ---- one more timeline

more_taken : (list : List Timeline) (held seen : Timeline) → held.beat <ℤ seen.beat → IsBest list held → IsBest (list ++ seen ∷ []) seen
more_taken list held seen lt best = record {
  before = list;
  after = [];
  split = refl;
  above =
      subst (λ (l : List Timeline). AllByRecursion (IsBelow seen.beat) l) (sym best.split)
      (all_append (IsBelow seen.beat) best.before (held ∷ best.after)
      (all_weaken (IsBelow held.beat) (IsBelow seen.beat) (λ tl h. lt_trans tl.beat held.beat seen.beat h lt) best.before best.above)
      (lt, all_weaken (IsUpTo held.beat) (IsBelow seen.beat) (λ tl h. le_lt_trans tl.beat held.beat seen.beat h lt) best.after best.least));
  least = tt;
}

more_kept : (list : List Timeline) (held seen : Timeline) → seen.beat ≤ℤ held.beat → IsBest list held → IsBest (list ++ seen ∷ []) held
more_kept list held seen le best = record {
  before = best.before;
  after = best.after ++ seen ∷ [];
  split = ap (λ l. l ++ seen ∷ []) best.split ∙ append_assoc best.before (held ∷ best.after) (seen ∷ []);
  above = best.above;
  least = all_append (IsUpTo held.beat) best.after (seen ∷ []) best.least (le, tt);
}

more : (list : List Timeline) (held seen : Timeline) → IsBest list held → IsBest (list ++ seen ∷ []) (latest_of held seen)
more list held seen best =
    by_test (λ b. IsBest (list ++ seen ∷ []) (if b then seen else held)) (int_lt held.beat seen.beat)
    (λ is. more_taken list held seen (int_lt-true held.beat seen.beat is) best)
    (λ is. more_kept list held seen (int_lt-false held.beat seen.beat is) best)

-- ---- the best by one comparison for each timeline

best_after : Timeline → List Timeline → Timeline
best_after held [] = held
best_after held (seen ∷ later) = best_after (latest_of held seen) later

best_after-IsBest : (list later : List Timeline) (held : Timeline) → IsBest list held → IsBest (list ++ later) (best_after held later)
unfolding best_after
best_after-IsBest list [] held best = subst (λ (l : List Timeline). IsBest l held) (sym (append-nil list)) best
best_after-IsBest list (seen ∷ later) held best =
    subst (λ (l : List Timeline). IsBest l (best_after (latest_of held seen) later)) (append_assoc list (seen ∷ []) later)
    (best_after-IsBest (list ++ seen ∷ []) later (latest_of held seen) (more list held seen best))

best_after-append : (held : Timeline) (later : List Timeline) (seen : Timeline) → best_after held (later ++ seen ∷ []) ≡ latest_of (best_after held later) seen
unfolding best_after
best_after-append held [] seen = refl
best_after-append held (next ∷ later) seen = best_after-append (latest_of held next) later seen

-- ---- the best by its definition

test_of : (list : List Timeline) (b tl : Timeline) → int_le b.beat tl.beat ≡ false → IsBest list b → is_greatest_in list tl ≡ false
test_of list b tl fails best =
    subst (λ (l : List Timeline). is_greatest_in l tl ≡ false) (sym best.split)
    (list_all-false (λ other. int_le other.beat tl.beat) best.before best.after b fails)

pub find_is_best : (list : List Timeline) (b : Timeline) → IsBest list b → find (is_greatest_in list) list ≡ Some b
find_is_best list b best =
    let none : AllByRecursion (λ tl. is_greatest_in list tl ≡ false) best.before =
    all_weaken (IsBelow b.beat) (λ tl. is_greatest_in list tl ≡ false) (λ tl h. test_of list b tl (false-int_le b.beat tl.beat h) best) best.before best.above in
    let passes : is_greatest_in list b ≡ true =
    subst (λ (l : List Timeline). is_greatest_in l b ≡ true) (sym best.split)
    (list_all-true (λ other. int_le other.beat b.beat) (best.before ++ b ∷ best.after)
    (all_append (λ other. int_le other.beat b.beat ≡ true) best.before (b ∷ best.after)
    (all_weaken (IsBelow b.beat) (λ other. int_le other.beat b.beat ≡ true) (λ tl h. true-int_le tl.beat b.beat (lt_le tl.beat b.beat h)) best.before best.above) (
      true-int_le b.beat b.beat (le_refl b.beat),
      all_weaken (IsUpTo b.beat) (λ other. int_le other.beat b.beat ≡ true) (λ tl h. true-int_le tl.beat b.beat h) best.after best.least,
    ))) in
    ap (find (is_greatest_in list)) best.split ∙ find_between (is_greatest_in list) best.before best.after b none passes

pub one_best_only : (list : List Timeline) (a b : Timeline) → IsBest list a → IsBest list b → a ≡ b
one_best_only list a b first second =
    let p : find (is_greatest_in list) list ≡ Some a = find_is_best list a first in
    let q : find (is_greatest_in list) list ≡ Some b = find_is_best list b second in
    cc

after_is_best : (first : Timeline) (later : List Timeline) → IsBest (first ∷ later) (best_after first later)
after_is_best first later =
    best_after-IsBest (first ∷ []) later first (record { before = []; after = []; split = refl; above = tt; least = tt })

best_of-after : (first : Timeline) (later : List Timeline) → best_of first later ≡ best_after first later
unfolding best_of
best_of-after first later =
    ap (λ o. unwrap_or o first) (find_is_best (first ∷ later) (best_after first later) (after_is_best first later))

pub best_of-IsBest : (first : Timeline) (later : List Timeline) → IsBest (first ∷ later) (best_of first later)
best_of-IsBest first later = subst (λ (b : Timeline). IsBest (first ∷ later) b) (sym (best_of-after first later)) (after_is_best first later)

-- one comparison with the best so far tells the best of one more
pub best_of-append : (first : Timeline) (later : List Timeline) (seen : Timeline)
    → best_of first (later ++ seen ∷ []) ≡ latest_of (best_of first later) seen
best_of-append first later seen =
    best_of-after first (later ++ seen ∷ []) ∙ best_after-append first later seen
    ∙ ap (λ held. latest_of held seen) (sym (best_of-after first later))

pub best_of-one : (first : Timeline) → best_of first [] ≡ first
unfolding best_after
best_of-one first = best_of-after first []
