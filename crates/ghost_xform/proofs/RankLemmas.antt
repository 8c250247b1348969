-- Ranks: each one has exactly one value, and a list in order has it at that place.
use Rattle.std.proofs.Common.{◌≡◌, ℕ, zero, suc, ◌+◌, ◌<◌, ◌≤◌, Bool, true, false, cond, List, [], ◌∷◌, ℤ, pos, ◌<ℤ◌, ◌≤ℤ◌, int_lt, int_le, nat_lt, nat_le, ◌&&◌, Some, unwrap_or, length, get_or, take, drop, count_by, Contains, IsPermutation, refl, sym, ap, ◌∙◌, inl, inr, arith}
use Rattle.std.specs.List.{find}
use Rattle.std.specs.List.Sorted.{IsSorted}
use Rattle.std.specs.Ordering.{int_cmp, is_lt}
use Rattle.std.proofs.lemmas.Int.{ints, by_lt_z}
use Rattle.std.proofs.lemmas.Cmp.{int_cmp_total}
use Rattle.std.proofs.lemmas.Bool.{false≢true, cases_lt, leb-true, ltb-true, le-leb, lt-ltb}
use Rattle.std.proofs.lemmas.List.{length-take-le, get_or_default, get_or-take, get_or-drop, length-drop}
use Rattle.std.proofs.lemmas.List.Sorted.{sorted_far, ranks_by}
use Rattle.std.proofs.lemmas.List.Sums.{sum_by-take-drop, sum_by-take-le, count_by-le-length}
use Rattle.ghost_xform.specs.Rank.{HasRank, has_rank, ranked_in}
use Rattle.ghost_xform.proofs.CountLemmas.{lt_true, lt_false, le_true, le_false, count_yes, count_no, count-IsPermutation, count_none, count_all, count-le, count-cons-le, count-le-cons}

-- a rank doesn't depend on the order
pub HasRank-IsPermutation : (xs ys : List ℤ) (r : ℕ) (x : ℤ) → IsPermutation xs ys → HasRank ys r x → HasRank xs r x
HasRank-IsPermutation xs ys r x moved is =
    let less = is.less in
    let at_most = is.at_most in
    record {
      less = omega (arith, count-IsPermutation (λ e. int_lt e x) xs ys moved);
      at_most = omega (arith, count-IsPermutation (λ e. int_le e x) xs ys moved);
    }

-- two values of one rank are the same
not_lower : (xs : List ℤ) (r : ℕ) (x y : ℤ) → HasRank xs r x → HasRank xs r y → x <ℤ y → ⊥
not_lower xs r x y isx isy lt =
    let few = isy.less in
    let many = isx.at_most in
    let more : count_by (λ e. int_le e x) xs ≤ count_by (λ e. int_lt e y) xs =
    count-le (λ e. int_le e x) (λ e. int_lt e y) xs (λ e h. lt_true e y (omega (arith, ints))) in
    omega arith

pub one_rank : (xs : List ℤ) (r : ℕ) (x y : ℤ) → HasRank xs r x → HasRank xs r y → x ≡ y
one_rank xs r x y isx isy =
    by_lt_z x y
    (λ lt. absurd (not_lower xs r x y isx isy lt))
    (λ ge. by_lt_z y x (λ lt. absurd (not_lower xs r y x isy isx lt)) (λ le. omega (arith, ints)))

-- what has a rank is an element
gap : (xs : List ℤ) (x : ℤ) → count_by (λ e. int_lt e x) xs < count_by (λ e. int_le e x) xs → Contains xs x
gap [] x h = absurd (omega arith)
gap (y ∷ ys) x h =
    by_lt_z y x
    (λ lt.
    let a = count_yes (λ e. int_lt e x) y ys (lt_true y x lt) in
    let b = count_yes (λ e. int_le e x) y ys (le_true y x (omega (arith, ints))) in
    let rest = gap ys x (omega arith) in
    (suc rest.0, omega (arith, rest.1), rest.2))
    (λ ge.
    by_lt_z x y
    (λ lt.
    let a = count_no (λ e. int_lt e x) y ys (lt_false y x ge) in
    let b = count_no (λ e. int_le e x) y ys (le_false y x lt) in
    let rest = gap ys x (omega arith) in
    (suc rest.0, omega (arith, rest.1), rest.2))
    (λ le. (0, omega arith, omega (arith, ints))))

pub HasRank-Contains : (xs : List ℤ) (r : ℕ) (x : ℤ) → HasRank xs r x → Contains xs x
HasRank-Contains xs r x is =
    let less = is.less in
    let at_most = is.at_most in
    gap xs x (omega arith)

-- the value of a rank in a list with one element more
from_above : (y : ℤ) (ys : List ℤ) (r : ℕ) (a : ℤ) → HasRank ys r a → a ≤ℤ y → HasRank (y ∷ ys) r a
from_above y ys r a is h =
    let less = is.less in
    let at_most = is.at_most in
    record {
      less = omega (arith, count_no (λ e. int_lt e a) y ys (lt_false y a h));
      at_most = omega (arith, count-le-cons (λ e. int_le e a) y ys);
    }

from_below : (y : ℤ) (ys : List ℤ) (r : ℕ) (b : ℤ) → HasRank ys r b → y ≤ℤ b → HasRank (y ∷ ys) (suc r) b
from_below y ys r b is h =
    let less = is.less in
    let at_most = is.at_most in
    record {
      less = omega (arith, count-cons-le (λ e. int_lt e b) y ys);
      at_most = omega (arith, count_yes (λ e. int_le e b) y ys (le_true y b h));
    }

between : (y : ℤ) (ys : List ℤ) (r : ℕ) → count_by (λ e. int_lt e y) ys ≤ r → r ≤ count_by (λ e. int_le e y) ys
    → HasRank (y ∷ ys) r y
between y ys r low high =
    record {
      less = omega (arith, count_no (λ e. int_lt e y) y ys (lt_false y y (omega (arith, ints))));
      at_most = omega (arith, count_yes (λ e. int_le e y) y ys (le_true y y (omega (arith, ints))));
    }

abbrev Ranked : List ℤ → ℕ → Type 0
Ranked xs r = (x : ℤ) × HasRank xs r x

not_below : (y : ℤ) (ys : List ℤ) (r : ℕ) → (r < length ys → Ranked ys r) → r < suc (length ys)
    → r ≤ count_by (λ e. int_le e y) ys → Ranked (y ∷ ys) r
not_below y ys r here h high =
    elim (cases_lt r (length ys)) [
      | inl lt ↦
          let a = here lt in
          let less = a.1.less in
          by_lt_z y a.0
          (λ below.
          let fewer : count_by (λ e. int_lt e y) ys ≤ count_by (λ e. int_lt e a.0) ys =
          count-le (λ e. int_lt e y) (λ e. int_lt e a.0) ys (λ e p. lt_true e a.0 (omega (arith, ints))) in
          (y, between y ys r (omega arith) high))
          (λ above. (a.0, from_above y ys r a.0 a.1 above))
      | inr le ↦ (y, between y ys r (omega (arith, count_by-le-length (λ e. int_lt e y) ys)) high)
    ]

pub ranked : (xs : List ℤ) (r : ℕ) → r < length xs → Ranked xs r
ranked [] r h = absurd (omega arith)
ranked (y ∷ ys) zero h = not_below y ys zero (λ lt. ranked ys zero lt) (omega arith) (omega arith)
ranked (y ∷ ys) (suc r) h =
    let b = ranked ys r (omega arith) in
    let at_most = b.1.at_most in
    by_lt_z b.0 y
    (λ above.
    let more : count_by (λ e. int_le e b.0) ys ≤ count_by (λ e. int_le e y) ys =
    count-le (λ e. int_le e b.0) (λ e. int_le e y) ys (λ e p. le_true e y (omega (arith, ints))) in
    not_below y ys (suc r) (λ lt. ranked ys (suc r) lt) (omega arith) (omega arith))
    (λ below. (b.0, from_below y ys r b.0 b.1 below))

-- what `find` finds passes
found : (p : ℤ → Bool) (y : ℤ) (ys : List ℤ) (b : Bool) → p y ≡ b
    → (b ≡ false → p (unwrap_or (find p ys) (pos 0)) ≡ true)
    → p (unwrap_or (cond b (Some y) (find p ys)) (pos 0)) ≡ true
found p y ys true e rest = e
found p y ys false e rest = rest refl

passing_later : (p : ℤ → Bool) (y : ℤ) (ys : List ℤ) (x : ℤ) (k : ℕ) → k < length (y ∷ ys) → get_or (y ∷ ys) k x ≡ x
    → p x ≡ true → p y ≡ false → Contains ys x
passing_later p y ys x zero lt e h fails = absurd (false≢true (sym fails ∙ ap p e ∙ h))
passing_later p y ys x (suc k) lt e h fails = (k, omega arith, e)

find_passes : (p : ℤ → Bool) (xs : List ℤ) (x : ℤ) → Contains xs x → p x ≡ true → p (unwrap_or (find p xs) (pos 0)) ≡ true
find_passes p [] x has h = absurd (omega (arith, has.1))
find_passes p (y ∷ ys) x has h =
    found p y ys (p y) refl
    (λ fails. find_passes p ys x (passing_later p y ys x has.0 has.1 has.2 h fails) h)

both_true : (a b : Bool) → (a && b) ≡ true → (a ≡ true) × (b ≡ true)
both_true true b e = (refl, e)
both_true false b e = absurd (false≢true e)

true_both : (a b : Bool) → a ≡ true → b ≡ true → (a && b) ≡ true
true_both true b e f = f
true_both false b e f = absurd (false≢true e)

HasRank-from_test : (xs : List ℤ) (r : ℕ) (x : ℤ) → has_rank xs r x ≡ true → HasRank xs r x
HasRank-from_test xs r x h =
    let both = both_true (nat_le (count_by (λ e. int_lt e x) xs) r) (nat_lt r (count_by (λ e. int_le e x) xs)) h in
    record { less = leb-true _ _ both.0; at_most = ltb-true _ _ both.1 }

test-from_HasRank : (xs : List ℤ) (r : ℕ) (x : ℤ) → HasRank xs r x → has_rank xs r x ≡ true
test-from_HasRank xs r x is =
    true_both (nat_le (count_by (λ e. int_lt e x) xs) r) (nat_lt r (count_by (λ e. int_le e x) xs))
    (le-leb _ _ is.less)
    (lt-ltb _ _ is.at_most)

-- `ranked_in` is the value of the rank
pub ranked_in-HasRank : (xs : List ℤ) (r : ℕ) → r < length xs → HasRank xs r (ranked_in xs r)
unfolding ranked_in
ranked_in-HasRank xs r h =
    let x = ranked xs r h in
    HasRank-from_test xs r (unwrap_or (find (has_rank xs r) xs) (pos 0))
    (find_passes (has_rank xs r) xs x.0 (HasRank-Contains xs r x.0 x.1) (test-from_HasRank xs r x.0 x.1))

-- a list in order has the value of a rank at that place
not_above : (x y : ℤ) → is_lt (int_cmp x y) ≡ false → y ≤ℤ x
not_above x y h =
    by_lt_z x y
    (λ lt. absurd (false≢true (sym h ∙ (simp (lt_true x y lt)))))
    (λ ge. ge)

rises : (xs : List ℤ) (i j : ℕ) (d : ℤ) → IsSorted int_cmp xs → i ≤ j → j < length xs → get_or xs i d ≤ℤ get_or xs j d
rises xs i j d up le lt =
    not_above (get_or xs j d) (get_or xs i d)
    (sorted_far (λ x y. is_lt (int_cmp x y)) (ranks_by int_cmp_total (λ x. x)) xs up i j d le lt)

-- none of what comes from there on is below it, and all up to there is at most that
none_behind : (xs : List ℤ) (r : ℕ) (d : ℤ) → IsSorted int_cmp xs → r < length xs
    → count_by (λ e. int_lt e (get_or xs r d)) (drop r xs) ≡ 0
none_behind xs r d up h =
    count_none (λ e. int_lt e (get_or xs r d)) (drop r xs)
    (λ k e lt.
    let within : r + k < length xs = omega (arith, length-drop r xs) in
    let same = get_or-drop r xs k e ∙ get_or_default xs (r + k) e d within in
    lt_false (get_or (drop r xs) k e) (get_or xs r d)
    (rw same (rises xs r (r + k) d up (omega arith) within)))

all_before : (xs : List ℤ) (r : ℕ) (d : ℤ) → IsSorted int_cmp xs → r < length xs
    → count_by (λ e. int_le e (get_or xs r d)) (take (r + 1) xs) ≡ r + 1
all_before xs r d up h =
    let whole = length-take-le (r + 1) xs (omega arith) in
    count_all (λ e. int_le e (get_or xs r d)) (take (r + 1) xs)
    (λ k e lt.
    let within : k < r + 1 = omega arith in
    let same = get_or-take (r + 1) xs k e within ∙ get_or_default xs k e d (omega arith) in
    le_true (get_or (take (r + 1) xs) k e) (get_or xs r d)
    (rw same (rises xs k r d up (omega arith) h)))
    ∙ whole

pub rank_at : (xs : List ℤ) (r : ℕ) (d : ℤ) → IsSorted int_cmp xs → r < length xs → HasRank xs r (get_or xs r d)
rank_at xs r d up h =
    let x = get_or xs r d in
    let behind = none_behind xs r d up h in
    let before = all_before xs r d up h in
    let split = sum_by-take-drop (λ e. cond (int_lt e x) 1 0) xs r in
    let front = count_by-le-length (λ e. int_lt e x) (take r xs) in
    record {
      less = omega (arith, length-take-le r xs (omega arith));
      at_most = omega (arith, sum_by-take-le (λ e. cond (int_le e x) 1 0) xs (r + 1));
    }

pub rank_after_sort : (xs ys : List ℤ) (r k : ℕ) → IsPermutation xs ys → IsSorted int_cmp ys → k ≡ r → r < length ys
    → HasRank xs r (get_or ys k (pos 0))
rank_after_sort xs ys r k moved up e h =
    rw e (HasRank-IsPermutation xs ys r (get_or ys r (pos 0)) moved (rank_at ys r (pos 0) up h))
