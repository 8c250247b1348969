-- Roundings that are undone, or made in several steps.
use Rattle.std.proofs.Common.{◌≡◌, ℕ, zero, suc, ◌*◌, ◌≤◌, ℤ, pos, negsuc, ◌+ℤ◌, ◌-ℤ◌, ◌*ℤ◌, ◌≤ℤ◌, neg_ℤ, unsigned_abs, refl, ap, arith}
use Rattle.std.proofs.lemmas.Int.{ints, by_lt_z}
use Rattle.lk_base.specs.Rounding.{IsNear, nearest_of}
use Rattle.lk_base.proofs.RoundingLemmas.{nearest_of-within, scaled_le, scaled_sum, scaled_neg}

-- a number of microbeats, rounded to microseconds and back
pub undone : (d n back r : ℤ) (m : ℕ) → 60_060 ≤ m → IsNear (d *ℤ pos m) (pos 1_000_000) n → back ≡ neg_ℤ n → IsNear (back *ℤ pos 1_000_000) (pos m) r → unsigned_abs (r +ℤ d) ≤ 8
undone d n back r m fast near_n back_is near_r =
    let turned = scaled_neg d m in
    by_lt_z (neg_ℤ d +ℤ pos 8) r
    (λ over.
    let apart = scaled_le (neg_ℤ d) r 9 m (omega (arith, ints)) in
    absurd (omega (arith, ints)))
    (λ le.
    by_lt_z r (neg_ℤ d -ℤ pos 8)
    (λ under.
    let apart = scaled_le r (neg_ℤ d) 9 m (omega (arith, ints)) in
    absurd (omega (arith, ints)))
    (λ ge. omega (arith, ints)))

-- three roundings in place of one
pub near_sum : (a b c s p q r w : ℤ) (m : ℕ) → 1 ≤ m → s ≡ a +ℤ b +ℤ c → IsNear a (pos m) p → IsNear b (pos m) q → IsNear c (pos m) r → IsNear s (pos m) w → unsigned_abs (p +ℤ q +ℤ r -ℤ w) ≤ 2
near_sum a b c s p q r w m some s_is near_p near_q near_r near_w =
    let two = scaled_sum p q m in
    let three = scaled_sum (p +ℤ q) r m in
    by_lt_z (w +ℤ pos 2) (p +ℤ q +ℤ r)
    (λ over.
    let apart = scaled_le w (p +ℤ q +ℤ r) 3 m (omega (arith, ints)) in
    absurd (omega (arith, ints)))
    (λ le.
    by_lt_z (p +ℤ q +ℤ r) (w -ℤ pos 2)
    (λ under.
    let apart = scaled_le (p +ℤ q +ℤ r) w 3 m (omega (arith, ints)) in
    absurd (omega (arith, ints)))
    (λ ge. omega (arith, ints)))

pub scaled_diff : (a b : ℤ) (m : ℕ) → (a -ℤ b) *ℤ pos m ≡ a *ℤ pos m -ℤ b *ℤ pos m
scaled_diff a b m =
    let sum = scaled_sum (a -ℤ b) b m in
    let whole : a -ℤ b +ℤ b ≡ a = omega (arith, ints) in
    omega (arith, ints, ap (λ z. z *ℤ pos m) whole)

-- how far the beat at a time is past the origin, before and after that many beats are added by moving the time origin
pub advanced_near : (b time at s late start moved p r : ℤ) (m : ℕ) → 60_060 ≤ m → IsNear ((s -ℤ b) *ℤ pos m) (pos 1_000_000) late → IsNear ((pos 0 -ℤ b) *ℤ pos m) (pos 1_000_000) start → moved ≡ time -ℤ (late -ℤ start) → IsNear ((at -ℤ time) *ℤ pos 1_000_000) (pos m) p → IsNear ((at -ℤ moved) *ℤ pos 1_000_000) (pos m) r → unsigned_abs (r -ℤ (p +ℤ s)) ≤ 17
advanced_near b time at s late start moved p r m fast near_late near_start moved_is near_p near_r =
    let to_s = scaled_diff s b m in
    let to_zero = scaled_diff (pos 0) b m in
    let sum = scaled_sum p s m in
    by_lt_z (p +ℤ s +ℤ pos 17) r
    (λ over.
    let apart = scaled_le (p +ℤ s) r 18 m (omega (arith, ints)) in
    absurd (omega (arith, ints)))
    (λ le.
    by_lt_z r (p +ℤ s -ℤ pos 17)
    (λ under.
    let apart = scaled_le r (p +ℤ s) 18 m (omega (arith, ints)) in
    absurd (omega (arith, ints)))
    (λ ge. omega (arith, ints)))

-- a number that isn't below 0
pub natural_of : (z : ℤ) → pos 0 ≤ℤ z → (m : ℕ) × (z ≡ pos m)
natural_of (pos m) h = (m, refl)
natural_of (negsuc m) h = absurd (omega (arith, ints))

-- halves go away from 0 on both sides of it
pub nearest_of-turned : (n d : ℤ) → pos 1 ≤ℤ d → nearest_of (neg_ℤ n) d ≡ neg_ℤ (nearest_of n d)
unfolding nearest_of
nearest_of-turned (pos zero) d h = omega (arith, ints, nearest_of-within (pos zero) d h)
nearest_of-turned (pos (suc a)) d h = refl
nearest_of-turned (negsuc a) d h = omega (arith, ints)

pub scaled_abs : (a : ℤ) (m : ℕ) → unsigned_abs (a *ℤ pos m) ≡ unsigned_abs a * m
scaled_abs (pos a) m = omega (arith, ints)
scaled_abs (negsuc a) m = omega (arith, ints)
