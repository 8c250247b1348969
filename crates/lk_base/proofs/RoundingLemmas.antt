-- Scaled numbers, and the nearest number to a quotient.
use Rattle.std.proofs.Common.{◌≡◌, ℕ, zero, suc, ◌+◌, ◌*◌, ◌^◌, ◌<◌, ◌≤◌, ℤ, pos, negsuc, ◌+ℤ◌, ◌*ℤ◌, ◌≤ℤ◌, neg_ℤ, unsigned_abs, ap, inl, inr, arith}
use Rattle.std.proofs.lemmas.Int.{ints, clamps, by_lt_z}
use Rattle.std.proofs.lemmas.Bool.{cases_lt}
use borrow.Author.Differences.{up, down, sum_is_lem}
use native.Mathlib.Nat.{mul-le-mul_right, le-mul_of_pos_right}
use Rattle.lk_base.specs.Ranges.{IsWithin}
use Rattle.lk_base.specs.Rounding.{IsNear, IsNearest, clipped_of, nearest_of, rounded_of}

-- numbers k apart are k times m apart once both are scaled by m
pub scaled_le : (p q : ℤ) (k m : ℕ) → (p +ℤ pos k) ≤ℤ q → (p *ℤ pos m +ℤ pos (k * m)) ≤ℤ (q *ℤ pos m)
scaled_le p q k m h =
    let g : up p + down q + k ≤ up q + down p = omega (arith, ints) in
    omega (arith, ints, mul-le-mul_right m g)

pub scaled_sum : (a b : ℤ) (m : ℕ) → (a +ℤ b) *ℤ pos m ≡ a *ℤ pos m +ℤ b *ℤ pos m
scaled_sum a b m = omega (arith, ints, ap (λ k. k * m) (sum_is_lem a b))

pub scaled_neg : (a : ℤ) (m : ℕ) → neg_ℤ a *ℤ pos m ≡ neg_ℤ (a *ℤ pos m)
scaled_neg (pos zero) m = omega (arith, ints)
scaled_neg (pos (suc a)) m = omega (arith, ints)
scaled_neg (negsuc a) m = omega (arith, ints)

-- the rounded quotient, by products alone
pub rounded-low : (n d : ℕ) → 0 < d → 2 * (rounded_of n d * d) ≤ 2 * n + d
unfolding rounded_of
rounded-low n d h =
    let p : 0 < 2 * d = omega arith in
    omega arith

pub rounded-high : (n d : ℕ) → 0 < d → 2 * n + d < 2 * (rounded_of n d * d) + 2 * d
unfolding rounded_of
rounded-high n d h =
    let p : 0 < 2 * d = omega arith in
    omega arith

-- cases on the order of two numbers
by_lt : {P : Type 0} (m n : ℕ) → (m < n → P) → (n ≤ m → P) → P
by_lt m n f g = elim (cases_lt m n) [ inl lt ↦ f lt | inr le ↦ g le ]

pub rounded_of-le : (n d : ℕ) → 0 < d → rounded_of n d ≤ n
rounded_of-le n d h =
    by_lt n (rounded_of n d)
    (λ lt. absurd (omega (arith, rounded-low n d h, mul-le-mul_right d lt, le-mul_of_pos_right n h)))
    (λ le. le)

-- n is apart from q times m by at most half of m
near_above : (a m : ℕ) → 0 < m → IsNear (pos a) (pos m) (pos (rounded_of a m))
near_above a m h = omega (arith, ints, rounded-low a m h, rounded-high a m h)

near_below : (a m : ℕ) → 0 < m → IsNear (negsuc a) (pos m) (neg_ℤ (pos (rounded_of (suc a) m)))
near_below a m h =
    omega (arith, ints, rounded-low (suc a) m h, rounded-high (suc a) m h, scaled_neg (pos (rounded_of (suc a) m)) m)

-- no number as near is farther from 0
far_above : (a m : ℕ) (o : ℤ) → 0 < m → IsNear (pos a) (pos m) o → unsigned_abs o ≤ rounded_of a m
far_above a m (pos o) h near =
    by_lt (rounded_of a m) o
    (λ lt. absurd (omega (arith, ints, rounded-high a m h, mul-le-mul_right m lt)))
    (λ le. le)
far_above a m (negsuc o) h near = absurd (omega (arith, ints))

far_below : (a m : ℕ) (o : ℤ) → 0 < m → IsNear (negsuc a) (pos m) o → unsigned_abs o ≤ rounded_of (suc a) m
far_below a m (pos zero) h near = omega arith
far_below a m (pos (suc o)) h near = absurd (omega (arith, ints))
far_below a m (negsuc o) h near =
    by_lt (rounded_of (suc a) m) (suc o)
    (λ lt. absurd (omega (arith, ints, rounded-high (suc a) m h, mul-le-mul_right m lt)))
    (λ le. le)

nearest_at : (n : ℤ) (m : ℕ) → 0 < m → IsNearest n (pos m) (nearest_of n (pos m))
unfolding nearest_of
nearest_at (pos a) m h = record { near = near_above a m h; farthest = λ o near. far_above a m o h near }
nearest_at (negsuc a) m h =
    record { near = near_below a m h; farthest = λ o near. omega (arith, ints, far_below a m o h near) }

pub nearest_of-IsNearest : (n d : ℤ) → pos 1 ≤ℤ d → IsNearest n d (nearest_of n d)
nearest_of-IsNearest n (pos m) h = nearest_at n m (omega (arith, ints))
nearest_of-IsNearest n (negsuc m) h = absurd (omega (arith, ints))

one_at : (n p q : ℤ) (m : ℕ) → 0 < m → IsNear n (pos m) p → IsNear n (pos m) q → unsigned_abs p ≡ unsigned_abs q → p ≡ q
one_at n (pos p) (pos q) m h nearp nearq e = omega (arith, ints)
one_at n (pos p) (negsuc q) m h nearp nearq e = absurd (omega (arith, ints, ap (λ k. k * m) e))
one_at n (negsuc p) (pos q) m h nearp nearq e = absurd (omega (arith, ints, ap (λ k. k * m) e))
one_at n (negsuc p) (negsuc q) m h nearp nearq e = omega (arith, ints)

-- a quotient has one nearest number
pub one_nearest : (n d p q : ℤ) → pos 1 ≤ℤ d → IsNearest n d p → IsNearest n d q → p ≡ q
one_nearest n (pos m) p q h isp isq =
    one_at n p q m (omega (arith, ints)) isp.near isq.near
    (omega (arith, isp.farthest q isq.near, isq.farthest p isp.near))
one_nearest n (negsuc m) p q h isp isq = absurd (omega (arith, ints))

pub nearest_from : (n d r : ℤ) → pos 1 ≤ℤ d → r ≡ nearest_of n d → IsNearest n d r
nearest_from n d r h e = rw e (nearest_of-IsNearest n d h)

pub only_from : (n d r q : ℤ) → pos 1 ≤ℤ d → r ≡ nearest_of n d → IsNearest n d q → q ≡ r
only_from n d r q h e isq = one_nearest n d q r h isq (nearest_from n d r h e)

pub nearest_of-within : (n d : ℤ) → pos 1 ≤ℤ d → unsigned_abs (nearest_of n d) ≤ unsigned_abs n
unfolding nearest_of
nearest_of-within (pos a) (pos m) h = rounded_of-le a m (omega (arith, ints))
nearest_of-within (negsuc a) (pos m) h = omega (arith, ints, rounded_of-le (suc a) m (omega (arith, ints)))
nearest_of-within n (negsuc m) h = absurd (omega (arith, ints))

-- a greater number has no lesser nearest number
pub nearest_of-le : (a b d : ℤ) → pos 1 ≤ℤ d → a ≤ℤ b → nearest_of a d ≤ℤ nearest_of b d
nearest_of-le a b (pos m) h le =
    let na = nearest_of-IsNearest a (pos m) h in
    let nb = nearest_of-IsNearest b (pos m) h in
    let neara = na.near in
    let nearb = nb.near in
    by_lt_z (nearest_of b (pos m)) (nearest_of a (pos m))
    (λ lt.
    let apart = scaled_le (nearest_of b (pos m)) (nearest_of a (pos m)) 1 m (omega (arith, ints)) in
    let same : a ≡ b = omega (arith, ints) in
    omega (arith, ints, ap (λ n. nearest_of n (pos m)) same))
    (λ ge. ge)
nearest_of-le a b (negsuc m) h le = absurd (omega (arith, ints))

-- clipping
pub clipped_of-le : (a b : ℤ) → a ≤ℤ b → clipped_of a ≤ℤ clipped_of b
clipped_of-le a b h = omega (arith, ints, clamps)

pub clipped_of-within : (a : ℤ) → IsWithin (2 ^ 60) (clipped_of a)
clipped_of-within a = omega (arith, ints, clamps)

pub clipped_of-same : (a : ℤ) → IsWithin (2 ^ 60) a → clipped_of a ≡ a
clipped_of-same a h = omega (arith, ints, clamps)
