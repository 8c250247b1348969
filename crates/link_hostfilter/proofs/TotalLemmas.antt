-- Totals.
use Rattle.std.proofs.Common.{◌≡◌, zero, suc, ℤ, pos, negsuc, ◌+ℤ◌, ◌*ℤ◌, ◌≤ℤ◌, List, [], ◌∷◌, ◌++◌, refl, arith}
use Rattle.std.proofs.lemmas.Int.{ints}
use Rattle.link_hostfilter.specs.Totals.{total}
use Rattle.link_hostfilter.proofs.RingLemmas.{times_sum}

module _ {A : Type 0} where
  pub total-same : (f g : A → ℤ) (xs : List A) → ((x : A) → f x ≡ g x) → total f xs ≡ total g xs
  unfolding total
  total-same f g [] e = refl
  total-same f g (x ∷ xs) e = omega (arith, ints, e x, total-same f g xs e)

  pub total-add : (f g : A → ℤ) (xs : List A) → total (λ x. f x +ℤ g x) xs ≡ total f xs +ℤ total g xs
  unfolding total
  total-add f g [] = refl
  total-add f g (x ∷ xs) = omega (arith, ints, total-add f g xs)

  pub total-times : (c : ℤ) (f : A → ℤ) (xs : List A) → total (λ x. c *ℤ f x) xs ≡ c *ℤ total f xs
  unfolding total
  total-times c f [] = omega (arith, ints)
  total-times c f (x ∷ xs) = omega (arith, ints, total-times c f xs, times_sum c (f x) (total f xs))

  pub total-push : (f : A → ℤ) (xs : List A) (x : A) → total f (xs ++ x ∷ []) ≡ total f xs +ℤ f x
  unfolding total
  total-push f [] x = omega (arith, ints)
  total-push f (y ∷ xs) x = omega (arith, ints, total-push f xs x)

  pub total-low : (f : A → ℤ) (xs : List A) → ((x : A) → pos 0 ≤ℤ f x) → pos 0 ≤ℤ total f xs
  unfolding total
  total-low f [] low = omega (arith, ints)
  total-low f (x ∷ xs) low = omega (arith, ints, low x, total-low f xs low)

pub square-low : (a : ℤ) → pos 0 ≤ℤ (a *ℤ a)
square-low (pos a) = omega (arith, ints)
square-low (negsuc a) = omega (arith, ints)

pub no_square : (a : ℤ) → a *ℤ a ≡ pos 0 → a ≡ pos 0
no_square (pos zero) e = refl
no_square (pos (suc a)) e = absurd (omega (arith, ints))
no_square (negsuc a) e = absurd (omega (arith, ints))

module _ {A : Type 0} where
  pub squares-low : (f : A → ℤ) (xs : List A) → pos 0 ≤ℤ total (λ x. f x *ℤ f x) xs
  squares-low f xs = total-low (λ x. f x *ℤ f x) xs (λ x. square-low (f x))
