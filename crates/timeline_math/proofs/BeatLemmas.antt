-- Beats and times rise, and nearest numbers by magnitudes.
use Rattle.std.proofs.Common.{◌≡◌, ℕ, ◌*◌, ℤ, pos, negsuc, ◌+ℤ◌, ◌-ℤ◌, ◌*ℤ◌, ◌<ℤ◌, ◌≤ℤ◌, neg_ℤ, unsigned_abs, refl, ap, sym, ◌∙◌, arith}
use Rattle.std.proofs.lemmas.Int.{ints, unsigned_abs-mul}
use Rattle.lk_base.specs.Rounding.{nearest_of, rounded_of, signed_of}
use Rattle.lk_base.specs.Timeline.{IsTidy}
use Rattle.lk_base.specs.declared.timeline.Timeline.{Timeline}
use Rattle.lk_base.proofs.RoundingLemmas.{scaled_le, nearest_of-le, clipped_of-le}
use Rattle.timeline_math.specs.Beats.{beat_at, time_at}

scaled_by : (p q d : ℤ) → pos 0 ≤ℤ d → p ≤ℤ q → (p *ℤ d) ≤ℤ (q *ℤ d)
scaled_by p q (pos m) h le = let scaled = scaled_le p q 0 m (omega (arith, ints)) in omega (arith, ints)
scaled_by p q (negsuc m) h le = absurd (omega (arith, ints))

pub beat_at-le : (tl : Timeline) (a b : ℤ) → IsTidy tl → a ≤ℤ b → beat_at tl a ≤ℤ beat_at tl b
unfolding beat_at
beat_at-le tl a b tidy le =
    let fastest = tidy.fastest in
    let na = (a -ℤ tl.time) *ℤ pos 1_000_000 in
    let nb = (b -ℤ tl.time) *ℤ pos 1_000_000 in
    let rises = nearest_of-le na nb tl.mpb (omega (arith, ints)) (omega (arith, ints)) in
    clipped_of-le (tl.beat +ℤ nearest_of na tl.mpb) (tl.beat +ℤ nearest_of nb tl.mpb) (omega (arith, ints))

pub time_at-le : (tl : Timeline) (a b : ℤ) → IsTidy tl → a ≤ℤ b → time_at tl a ≤ℤ time_at tl b
unfolding time_at
time_at-le tl a b tidy le =
    let fastest = tidy.fastest in
    let na = (a -ℤ tl.beat) *ℤ tl.mpb in
    let nb = (b -ℤ tl.beat) *ℤ tl.mpb in
    let scaled : na ≤ℤ nb = scaled_by (a -ℤ tl.beat) (b -ℤ tl.beat) tl.mpb (omega (arith, ints)) (omega (arith, ints)) in
    let rises = nearest_of-le na nb (pos 1_000_000) (omega (arith, ints)) scaled in
    clipped_of-le (tl.time +ℤ nearest_of na (pos 1_000_000)) (tl.time +ℤ nearest_of nb (pos 1_000_000)) (omega (arith, ints))

-- ---- the sign of a scaled number is that of the number
signed_of-pos : (z : ℤ) (m : ℕ) → pos 0 ≤ℤ z → signed_of z m ≡ pos m
signed_of-pos (pos a) m h = refl
signed_of-pos (negsuc a) m h = absurd (omega (arith, ints))

signed_of-neg : (z : ℤ) (m : ℕ) → z <ℤ pos 0 → signed_of z m ≡ neg_ℤ (pos m)
signed_of-neg (pos a) m h = absurd (omega (arith, ints))
signed_of-neg (negsuc a) m h = refl

scaled_sign : (n by : ℤ) (m : ℕ) → pos 1 ≤ℤ by → signed_of (n *ℤ by) m ≡ signed_of n m
scaled_sign (pos a) (pos b) m h =
    let low = scaled_le (pos 0) (pos a) 0 b (omega (arith, ints)) in
    signed_of-pos (pos a *ℤ pos b) m (omega (arith, ints))
scaled_sign (negsuc a) (pos b) m h =
    let high = scaled_le (negsuc a) (pos 0) 1 b (omega (arith, ints)) in
    signed_of-neg (negsuc a *ℤ pos b) m (omega (arith, ints))
scaled_sign n (negsuc b) m h = absurd (omega (arith, ints))

-- the number nearest to a scaled quotient, from the numbers that the code finds on the way
pub nearest_of-from : (n by per r : ℤ) (a m : ℕ) → pos 1 ≤ℤ by → a ≡ unsigned_abs n → m ≡ rounded_of (a * unsigned_abs by) (unsigned_abs per) → r ≡ signed_of n m → r ≡ nearest_of (n *ℤ by) per
unfolding nearest_of
nearest_of-from n by per r a m h a_is m_is r_is =
    let scaled : a * unsigned_abs by ≡ unsigned_abs (n *ℤ by) =
    ap (λ k. k * unsigned_abs by) a_is ∙ sym (unsigned_abs-mul n by) in
    r_is
    ∙ ap (signed_of n) m_is
    ∙ ap (λ k. signed_of n (rounded_of k (unsigned_abs per))) scaled
    ∙ sym (scaled_sign n by (rounded_of (unsigned_abs (n *ℤ by)) (unsigned_abs per)) h)
