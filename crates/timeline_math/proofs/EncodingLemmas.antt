-- Encoded beats: their phase, and how near they are.
use Rattle.std.proofs.Common.{◌≡◌, ℕ, zero, suc, ◌*◌, ◌<◌, ℤ, pos, negsuc, ◌+ℤ◌, ◌-ℤ◌, ◌*ℤ◌, ◌<ℤ◌, ◌≤ℤ◌, neg_ℤ, unsigned_abs, refl, ap, ◌∙◌, arith}
use Rattle.std.proofs.lemmas.Int.{ints, clamps, by_lt_z}
use Rattle.lk_base.proofs.RoundingLemmas.{scaled_le, scaled_neg, scaled_sum}
use Rattle.lk_base.specs.Rounding.{clipped_of, nearest_of}
use Rattle.lk_base.specs.declared.timeline.Timeline.{Timeline}
use Rattle.timeline_math.specs.Beats.{beat_at, time_at}
use Rattle.timeline_math.specs.Encoding.{encoded_beat, encoded_time}
use Rattle.timeline_math.specs.Quantum.{phase_of, closest_match_of}
use Rattle.timeline_math.proofs.QuantumLemmas.{phase_of-divides, phase_of-free, next_match_of-IsNextMatch, closest_match_of-below, closest_match_of-low, closest_match_of-near, closest_match_of-phase}

pub encoded_beat-phase : (tl : Timeline) (time q : ℤ) → pos 0 ≤ℤ q → phase_of (encoded_beat tl time q) q ≡ phase_of (beat_at tl time -ℤ tl.beat) q
unfolding encoded_beat closest_match_of
encoded_beat-phase tl time q h =
    (next_match_of-IsNextMatch (beat_at tl time -ℤ nearest_of q (pos 2)) (beat_at tl time -ℤ tl.beat) q h).phase

pub encoded_beat-near : (tl : Timeline) (time q : ℤ) → pos 0 ≤ℤ q → pos (2 * unsigned_abs (encoded_beat tl time q -ℤ beat_at tl time)) ≤ℤ (q +ℤ pos 1)
unfolding encoded_beat
encoded_beat-near tl time q h = closest_match_of-near (beat_at tl time) (beat_at tl time -ℤ tl.beat) q h

-- the time of an encoded beat, from the numbers that the code finds on the way
pub encoded_time-from : (tl : Timeline) (x q past here inside whole r : ℤ) → past ≡ phase_of (x -ℤ tl.beat) q → here ≡ phase_of x q → inside ≡ closest_match_of (q -ℤ past) (q -ℤ here) q → whole ≡ clipped_of (x -ℤ past +ℤ (q -ℤ inside)) → r ≡ time_at tl whole → r ≡ encoded_time tl x q
unfolding encoded_time
encoded_time-from tl x q past here inside whole r past_is here_is inside_is whole_is r_is =
    let apart = phase_of (x -ℤ tl.beat) q in
    let there = closest_match_of (q -ℤ apart) (q -ℤ phase_of x q) q in
    let same : inside ≡ there =
    inside_is
    ∙ ap (λ z. closest_match_of (q -ℤ z) (q -ℤ here) q) past_is
    ∙ ap (λ z. closest_match_of (q -ℤ apart) (q -ℤ z) q) here_is in
    let clipped : whole ≡ clipped_of (tl.beat +ℤ (x -ℤ tl.beat) -ℤ apart +ℤ (q -ℤ there)) =
    omega (arith, ints, clamps) in
    r_is ∙ ap (time_at tl) clipped

-- ---- an encoded beat has the time of the beat

-- numbers less than a quantum apart by a multiple of it are one
one_of : (k x y : ℤ) (m : ℕ) → x ≡ y +ℤ k *ℤ pos m → x <ℤ (y +ℤ pos m) → y <ℤ (x +ℤ pos m) → x ≡ y
one_of k x y m e below above =
    by_lt_z (pos 0) k
    (λ lt. let apart = scaled_le (pos 0) k 1 m (omega (arith, ints)) in absurd (omega (arith, ints)))
    (λ ge.
    by_lt_z k (pos 0)
    (λ lt. let apart = scaled_le k (pos 0) 1 m (omega (arith, ints)) in absurd (omega (arith, ints)))
    (λ le.
    let zero_of : k ≡ pos 0 = omega (arith, ints) in
    let none = ap (λ z. z *ℤ pos m) zero_of in
    omega (arith, ints)))

-- the beat that an encoded beat is decoded to
abbrev decoded_of : ℤ → ℤ → ℤ → ℤ
decoded_of origin x q =
    let past = phase_of (x -ℤ origin) q in
    origin +ℤ (x -ℤ origin) -ℤ past +ℤ (q -ℤ closest_match_of (q -ℤ past) (q -ℤ phase_of x q) q)

decoded : (origin b q : ℤ) → pos 0 ≤ℤ q → decoded_of origin (closest_match_of b (b -ℤ origin) q) q ≡ b
decoded origin b (pos zero) h =
    let x = closest_match_of b (b -ℤ origin) (pos 0) in
    let past = phase_of (x -ℤ origin) (pos 0) in
    let none = phase_of-free (x -ℤ origin) (pos 0) refl in
    let same = closest_match_of-near b (b -ℤ origin) (pos 0) h in
    let inside = closest_match_of-near (pos 0 -ℤ past) (pos 0 -ℤ phase_of x (pos 0)) (pos 0) h in
    omega (arith, ints)
decoded origin b (pos (suc n)) h =
    let m = suc n in
    let q = pos m in
    let lt : pos 0 <ℤ q = omega (arith, ints) in
    let some : 0 < m = omega arith in
    let x = closest_match_of b (b -ℤ origin) q in
    let past = phase_of (x -ℤ origin) q in
    let here = phase_of x q in
    let inside = closest_match_of (q -ℤ past) (q -ℤ here) q in
    let from = phase_of-divides (x -ℤ origin) m some in
    let whole = phase_of-divides (b -ℤ origin) m some in
    let rest = phase_of-divides inside m some in
    let wanted = phase_of-divides (q -ℤ here) m some in
    let same = closest_match_of-phase b (b -ℤ origin) q h in
    let same_rest = closest_match_of-phase (q -ℤ past) (q -ℤ here) q h in
    let added = scaled_sum from.0 wanted.0 m in
    let taken = scaled_sum whole.0 rest.0 m in
    let turned = scaled_neg (whole.0 +ℤ rest.0) m in
    let k = from.0 +ℤ wanted.0 +ℤ neg_ℤ (whole.0 +ℤ rest.0) in
    let sum = scaled_sum (from.0 +ℤ wanted.0) (neg_ℤ (whole.0 +ℤ rest.0)) m in
    let apart : decoded_of origin x q ≡ b +ℤ k *ℤ q =
    omega (arith, ints, from.1, whole.1, rest.1, wanted.1) in
    let low = closest_match_of-low b (b -ℤ origin) q in
    let below = closest_match_of-below b (b -ℤ origin) q lt in
    let low_rest = closest_match_of-low (q -ℤ past) (q -ℤ here) q in
    let below_rest = closest_match_of-below (q -ℤ past) (q -ℤ here) q lt in
    one_of k (decoded_of origin x q) b m apart (omega (arith, ints)) (omega (arith, ints))
decoded origin b (negsuc n) h = absurd (omega (arith, ints))

beat_at-clipped : (tl : Timeline) (time : ℤ) → clipped_of (beat_at tl time) ≡ beat_at tl time
unfolding beat_at
beat_at-clipped tl time = omega (arith, ints, clamps)

pub encoded_time-encoded_beat : (tl : Timeline) (time q : ℤ) → pos 0 ≤ℤ q → encoded_time tl (encoded_beat tl time q) q ≡ time_at tl (beat_at tl time)
unfolding encoded_time encoded_beat
encoded_time-encoded_beat tl time q h =
    let e = decoded tl.beat (beat_at tl time) q h in
    let back : ℤ → ℤ = λ whole. time_at tl (clipped_of whole) in
    ap back e ∙ ap (time_at tl) (beat_at-clipped tl time)
