-- Derived orders, in the words of specs/.
use Rattle.std.proofs.Common.{◌≡◌, ℕ, Bool, true, false, cond, nat_lt, ◌==◌, ◌||◌, ◌&&◌, List, [], ◌∷◌, Ordering, Less, Equal, Greater, refl, ap, ◌∙◌}
use Rattle.std.specs.Ordering.{is_lt, nat_cmp, ordering_then}
use Rattle.std.specs.Cmp.Lexicographic.{slice_cmp}
use Rattle.lk_base.specs.IdOrder.{bytes_lt}

by_tests : (less same : Bool) (rest : Ordering) → is_lt (ordering_then (cond less Less (cond same Equal Greater)) rest) ≡ (less || (same && is_lt rest))
by_tests true same rest = refl
by_tests false true rest = refl
by_tests false false rest = refl

pub is_lt-bytes : (bytes others : List ℕ) → is_lt (slice_cmp nat_cmp bytes others) ≡ bytes_lt bytes others
unfolding bytes_lt
is_lt-bytes [] [] = refl
is_lt-bytes [] (b ∷ others) = refl
is_lt-bytes (a ∷ bytes) [] = refl
is_lt-bytes (a ∷ bytes) (b ∷ others) =
    by_tests (nat_lt a b) (a == b) (slice_cmp nat_cmp bytes others)
    ∙ ap (λ (t : Bool). nat_lt a b || ((a == b) && t)) (is_lt-bytes bytes others)

by_nat : (less same : Bool) → is_lt (cond less Less (cond same Equal Greater)) ≡ less
by_nat true same = refl
by_nat false true = refl
by_nat false false = refl

pub is_lt-nat : (n m : ℕ) → is_lt (nat_cmp n m) ≡ nat_lt n m
is_lt-nat n m = by_nat (nat_lt n m) (n == m)

-- two numbers, the first of more weight
pub is_lt-pair : (n m n' m' : ℕ) → is_lt (ordering_then (nat_cmp n n') (nat_cmp m m')) ≡ (nat_lt n n' || ((n == n') && nat_lt m m'))
is_lt-pair n m n' m' =
    by_tests (nat_lt n n') (n == n') (nat_cmp m m')
    ∙ ap (λ (t : Bool). nat_lt n n' || ((n == n') && t)) (is_lt-nat m m')
