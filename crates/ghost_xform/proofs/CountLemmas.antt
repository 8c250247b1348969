-- How many elements of a list pass a test.
use Rattle.std.proofs.Common.{◌≡◌, suc, ◌+◌, ◌≤◌, Bool, true, false, cond, List, [], ◌∷◌, ℤ, ◌<ℤ◌, ◌≤ℤ◌, int_lt, int_le, length, count_by, All, IsPermutation, refl, sym, ap, ◌∙◌, arith}
use Rattle.std.proofs.lemmas.Int.{ints}
use Rattle.std.proofs.lemmas.Bool.{false≢true}
use Rattle.std.proofs.lemmas.List.Sorted.{sum_by-IsPermutation}
use Rattle.std.proofs.lemmas.List.Sums.{sum_by-cons, sum_by-le-sum_by}

pub lt_true : (x y : ℤ) → x <ℤ y → int_lt x y ≡ true
lt_true x y h = let e : true ≡ int_lt x y = omega (arith, ints) in sym e

pub lt_false : (x y : ℤ) → y ≤ℤ x → int_lt x y ≡ false
lt_false x y h = let e : false ≡ int_lt x y = omega (arith, ints) in sym e

pub le_true : (x y : ℤ) → x ≤ℤ y → int_le x y ≡ true
le_true x y h = let e : true ≡ int_le x y = omega (arith, ints) in sym e

pub le_false : (x y : ℤ) → y <ℤ x → int_le x y ≡ false
le_false x y h = let e : false ≡ int_le x y = omega (arith, ints) in sym e

pub count_yes : (p : ℤ → Bool) (x : ℤ) (xs : List ℤ) → p x ≡ true → count_by p (x ∷ xs) ≡ 1 + count_by p xs
count_yes p x xs h = sum_by-cons (λ e. cond (p e) 1 0) x xs ∙ ap (λ b. cond b 1 0 + count_by p xs) h

pub count_no : (p : ℤ → Bool) (x : ℤ) (xs : List ℤ) → p x ≡ false → count_by p (x ∷ xs) ≡ count_by p xs
count_no p x xs h =
    let one = ap (λ b. cond b 1 0 + count_by p xs) h in
    omega (arith, sum_by-cons (λ e. cond (p e) 1 0) x xs)

pub count-IsPermutation : (p : ℤ → Bool) (xs ys : List ℤ) → IsPermutation xs ys → count_by p ys ≡ count_by p xs
count-IsPermutation p xs ys h = sum_by-IsPermutation (λ e. cond (p e) 1 0) xs ys h

-- no element passes
pub count_none : (p : ℤ → Bool) (xs : List ℤ) → All (λ x. p x ≡ false) xs → count_by p xs ≡ 0
count_none p [] h = refl
count_none p (x ∷ xs) h =
    count_no p x xs (h 0 x (omega arith))
    ∙ count_none p xs (λ k d lt. h (suc k) d (omega arith))

-- each element passes
pub count_all : (p : ℤ → Bool) (xs : List ℤ) → All (λ x. p x ≡ true) xs → count_by p xs ≡ length xs
count_all p [] h = refl
count_all p (x ∷ xs) h =
    let rest = count_all p xs (λ k d lt. h (suc k) d (omega arith)) in
    omega (arith, count_yes p x xs (h 0 x (omega arith)))

-- a test that passes more
one_le : (a b : Bool) → (a ≡ true → b ≡ true) → cond a 1 0 ≤ cond b 1 0
one_le true true h = omega arith
one_le true false h = absurd (false≢true (h refl))
one_le false true h = omega arith
one_le false false h = omega arith

pub count-le : (p q : ℤ → Bool) (xs : List ℤ) → ((x : ℤ) → p x ≡ true → q x ≡ true) → count_by p xs ≤ count_by q xs
count-le p q xs h = sum_by-le-sum_by (λ e. cond (p e) 1 0) (λ e. cond (q e) 1 0) xs (λ x. one_le (p x) (q x) (h x))

-- a list with one element more
one_at_most : (b : Bool) → cond b 1 0 ≤ 1
one_at_most true = omega arith
one_at_most false = omega arith

pub count-cons-le : (p : ℤ → Bool) (x : ℤ) (xs : List ℤ) → count_by p (x ∷ xs) ≤ 1 + count_by p xs
count-cons-le p x xs = omega (arith, sum_by-cons (λ e. cond (p e) 1 0) x xs, one_at_most (p x))

pub count-le-cons : (p : ℤ → Bool) (x : ℤ) (xs : List ℤ) → count_by p xs ≤ count_by p (x ∷ xs)
count-le-cons p x xs = omega (arith, sum_by-cons (λ e. cond (p e) 1 0) x xs)
