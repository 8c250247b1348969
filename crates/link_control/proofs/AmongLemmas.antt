-- Elements by their places, pairs that stand among others in order, and commits by their numbers.
use Rattle.std.proofs.Common.{◌≡◌, refl, sym, subst, ⊎_elim, arith, ℕ, zero, suc, ◌+◌, ◌≤◌, List, [], ◌∷◌, ◌++◌, length}
use Rattle.std.specs.List.{AllByRecursion}
use mathlib.Core.Option.{some, some-injective, some-ne-none}
use lib.ListN.{get_elem?}
use Rattle.audio_handoff.specs.Cell.{NumbersNeverFall, Pair}
use Rattle.link_control.specs.Log.{AreCounted, Numbered}
use Rattle.link_live.specs.ScriptRun.{AreAmong}

-- ---- elements by their places

module _ {A : Type 0} where
  pub at_longer : (l rest : List A) (k : ℕ) (a : A) → get_elem? l k ≡ some a → get_elem? (l ++ rest) k ≡ some a
  at_longer [] rest k a e = absurd (some-ne-none a (sym e))
  at_longer (x ∷ xs) rest zero a e = e
  at_longer (x ∷ xs) rest (suc k) a e = at_longer xs rest k a e

  pub at_end : (l : List A) (a : A) → get_elem? (l ++ a ∷ []) (length l) ≡ some a
  at_end [] a = refl
  at_end (x ∷ xs) a = at_end xs a

  all_at : (P : A → Type 0) (l : List A) (k : ℕ) (a : A) → AllByRecursion P l → get_elem? l k ≡ some a → P a
  all_at P [] k a all e = absurd (some-ne-none a (sym e))
  all_at P (x ∷ xs) zero a all e = subst P (some-injective x a e) all.0
  all_at P (x ∷ xs) (suc k) a all e = all_at P xs k a all.1 e

-- ---- numbers that never fall

-- no pair has a less number than one before it
abbrev Rises : List Pair → Type 0
Rises [] = Unit {0}
Rises (pair ∷ pairs) = AllByRecursion (λ (later : Pair). pair.0 ≤ later.0) pairs × Rises pairs

none_below : (pair : Pair) (pairs : List Pair) → ((k : ℕ) (later : Pair) → get_elem? pairs k ≡ some later → pair.0 ≤ later.0)
    → AllByRecursion (λ (later : Pair). pair.0 ≤ later.0) pairs
none_below pair [] above = tt
none_below pair (next ∷ pairs) above = (above zero next refl, none_below pair pairs (λ k later e. above (suc k) later e))

to_rises : (pairs : List Pair) → NumbersNeverFall pairs → Rises pairs
to_rises [] falls = tt
to_rises (pair ∷ pairs) falls = (
  none_below pair pairs (λ k later e. falls zero (suc k) pair later (omega arith) refl e),
  to_rises pairs (λ j k first second le e f. falls (suc j) (suc k) first second (omega (arith, le)) e f),
)

all_among : (P : Pair → Type 0) (all pairs : List Pair) → AllByRecursion P all → AreAmong pairs all → AllByRecursion P pairs
all_among P [] [] each among = tt
all_among P [] (pair ∷ pairs) each among = absurd among
all_among P (first ∷ all) [] each among = tt
all_among P (first ∷ all) (pair ∷ pairs) each among =
    ⊎_elim
    (λ (h : (first ≡ pair) × AreAmong pairs all). (subst P h.0 each.0, all_among P all pairs each.1 h.1))
    (λ (h : AreAmong (pair ∷ pairs) all). all_among P all (pair ∷ pairs) each.1 h)
    among

rises_among : (all pairs : List Pair) → Rises all → AreAmong pairs all → Rises pairs
rises_among [] [] rises among = tt
rises_among [] (pair ∷ pairs) rises among = absurd among
rises_among (first ∷ all) [] rises among = tt
rises_among (first ∷ all) (pair ∷ pairs) rises among =
    ⊎_elim
    (λ (h : (first ≡ pair) × AreAmong pairs all). (
      all_among (λ (later : Pair). pair.0 ≤ later.0) all pairs
          (subst (λ (p : Pair). AllByRecursion (λ (later : Pair). p.0 ≤ later.0) all) h.0 rises.0) h.1,
      rises_among all pairs rises.1 h.1,
    ))
    (λ (h : AreAmong (pair ∷ pairs) all). rises_among all (pair ∷ pairs) rises.1 h)
    among

from_rises : (pairs : List Pair) → Rises pairs → NumbersNeverFall pairs
from_rises [] rises j k first second le e f = absurd (some-ne-none first (sym e))
from_rises (pair ∷ pairs) rises zero zero first second le e f =
    let same_first = some-injective pair first e in
    let same_second = some-injective pair second f in
    subst (λ (x : Pair × Pair). x.0.0 ≤ x.1.0) (λ i. (same_first i, same_second i)) (omega arith)
from_rises (pair ∷ pairs) rises zero (suc k) first second le e f =
    subst (λ (p : Pair). p.0 ≤ second.0) (some-injective pair first e) (all_at (λ (later : Pair). pair.0 ≤ later.0) pairs k second rises.0 f)
from_rises (pair ∷ pairs) rises (suc j) zero first second le e f = absurd (omega (arith, le))
from_rises (pair ∷ pairs) rises (suc j) (suc k) first second le e f = from_rises pairs rises.1 j k first second (omega (arith, le)) e f

-- pairs among others whose numbers never fall
pub never_fall_among : (all pairs : List Pair) → NumbersNeverFall all → AreAmong pairs all → NumbersNeverFall pairs
never_fall_among all pairs falls among = from_rises pairs (rises_among all pairs (to_rises all falls) among)

-- ---- numbers that count on

pub counted_more : (made : ℕ) (commits : List Numbered) (last : Numbered) → AreCounted made commits → last.0 ≡ made + length commits + 1
    → AreCounted made (commits ++ last ∷ [])
counted_more made [] last counted is = (omega (arith, is), tt)
counted_more made (first ∷ commits) last counted is = (counted.0, counted_more (made + 1) commits last counted.1 (omega (arith, is)))
