-- A beat requested with peers: the beat origin moves by whole quanta, and the time origin hardly.
use Rattle.std.proofs.Common.{◌≡◌, ℕ, zero, suc, ◌+◌, ◌*◌, ◌<◌, ◌≤◌, ℤ, pos, negsuc, ◌+ℤ◌, ◌-ℤ◌, ◌*ℤ◌, ◌<ℤ◌, ◌≤ℤ◌, neg_ℤ, unsigned_abs, Bool, true, false, nat_lt, if◌then◌else◌, refl, ap, subst, sym, ◌∙◌, arith}
use Rattle.std.proofs.lemmas.Int.{ints, clamps, by_lt_z}
use Rattle.std.proofs.lemmas.Bool.{lt-ltb}
use native.Mathlib.Nat.{mul-le-mul_right}
use Rattle.lk_base.specs.Ranges.{IsQuantum, IsWithinLimit}
use Rattle.lk_base.specs.Rounding.{IsNear, clipped_of, nearest_of}
use Rattle.lk_base.specs.Timeline.{IsTidy}
use Rattle.lk_base.specs.declared.timeline.Timeline.{Timeline}
use Rattle.lk_base.proofs.RoundingLemmas.{nearest_of-IsNearest, clipped_of-same, scaled_le, scaled_sum}
use Rattle.timeline_math.specs.Beats.{beat_at, time_at}
use Rattle.timeline_math.specs.Encoding.{encoded_beat, encoded_time}
use Rattle.timeline_math.specs.Quantum.{phase_of, closest_match_of}
use Rattle.timeline_math.proofs.EncodingLemmas.{encoded_beat-phase}
use Rattle.timeline_math.proofs.QuantumLemmas.{closest_match_of-below, closest_match_of-low, closest_match_of-phase, half-high, half-low, next_match_of-IsNextMatch, phase_of-divides}
use Rattle.client_state.specs.Edits.{match_of, shift_of, advance_of, forced_of, next_time_of, requested_of}
use Rattle.client_state.specs.Unclipped.{IsUnclippedRequest, wide_decoded_of, wide_match_of, wide_time_at}
use Rattle.client_state.proofs.EditLemmas.{forced-moved, free-shift, phase-apart}
use Rattle.client_state.proofs.RoundLemmas.{natural_of, scaled_abs, scaled_diff}

-- ---- the shift, in beats
-- a number and the one of its phase that lies within half a quantum of 0, rounded up below: it is hardly farther from 0
window-abs : (d s k half : ℤ) (m : ℕ) → s ≡ d +ℤ k *ℤ pos m → pos m ≤ℤ (half +ℤ half) → (half +ℤ half) ≤ℤ (pos m +ℤ pos 1) → neg_ℤ half ≤ℤ s → s <ℤ (pos m -ℤ half) → unsigned_abs s ≤ unsigned_abs d + 1
window-abs d s k half m e half_low half_high low below =
    by_lt_z (pos 0) k
    (λ lt. let apart = scaled_le (pos 0) k 1 m (omega (arith, ints)) in omega (arith, ints))
    (λ ge.
    by_lt_z k (pos 0)
    (λ lt. let apart = scaled_le k (pos 0) 1 m (omega (arith, ints)) in omega (arith, ints))
    (λ le.
    let none : k ≡ pos 0 = omega (arith, ints) in
    let scaled = ap (λ z. z *ℤ pos m) none in
    omega (arith, ints)))

-- the beat that an encoded beat has the time of lies past the origin with the phase of the encoded beat
decoded-apart : (tl : Timeline) (x : ℤ) (m : ℕ) → 0 < m → (k : ℤ) × (wide_decoded_of tl x (pos m) ≡ tl.beat +ℤ x +ℤ k *ℤ pos m)
unfolding wide_decoded_of
decoded-apart tl x m some =
    let q = pos m in
    let past = phase_of (x -ℤ tl.beat) q in
    let here = phase_of x q in
    let inside = closest_match_of (q -ℤ past) (q -ℤ here) q in
    let from = phase_of-divides (x -ℤ tl.beat) m some in
    let whole = phase_of-divides x m some in
    let rest = phase-apart inside (q -ℤ here) m some (closest_match_of-phase (q -ℤ past) (q -ℤ here) q (omega (arith, ints))) in
    let taken = scaled_diff from.0 whole.0 m in
    let left = scaled_diff (from.0 -ℤ whole.0) rest.0 m in
    (from.0 -ℤ whole.0 -ℤ rest.0, omega (arith, ints, from.1, whole.1, rest.1, taken, left))

-- the shift at a time, from a beat that lies past the origin with the phase of the requested beat
shift-apart : (tl : Timeline) (beat at y k : ℤ) (m : ℕ) → 0 < m → y ≡ tl.beat +ℤ beat +ℤ k *ℤ pos m → unsigned_abs (shift_of tl beat at (pos m)) ≤ unsigned_abs (y -ℤ beat_at tl at) + 1
unfolding shift_of match_of
shift-apart tl beat at y k m some y_is =
    let q = pos m in
    let quantum : pos 0 ≤ℤ q = omega (arith, ints) in
    let here = encoded_beat tl at q in
    let there = closest_match_of here beat q in
    let half = nearest_of q (pos 2) in
    let of_here = phase-apart here (beat_at tl at -ℤ tl.beat) m some (encoded_beat-phase tl at q quantum) in
    let of_there = phase-apart there beat m some (closest_match_of-phase here beat q quantum) in
    let taken = scaled_diff of_there.0 of_here.0 m in
    let left = scaled_diff (of_there.0 -ℤ of_here.0) k m in
    let apart : there -ℤ here ≡ y -ℤ beat_at tl at +ℤ (of_there.0 -ℤ of_here.0 -ℤ k) *ℤ q =
    omega (arith, ints, of_here.1, of_there.1) in
    let low = closest_match_of-low here beat q in
    let below = closest_match_of-below here beat q (omega (arith, ints)) in
    window-abs (y -ℤ beat_at tl at) (there -ℤ here) (of_there.0 -ℤ of_here.0 -ℤ k) half m apart (half-low q quantum) (half-high q quantum) (omega (arith, ints)) (omega (arith, ints))

-- ---- the shift, in microseconds
-- a beat's rounded time has a beat that lies within the two roundings from it; a clipped one is no farther
rounded-apart : (b y n r back : ℤ) (m : ℕ) → IsWithinLimit y → IsNear ((y -ℤ b) *ℤ pos m) (pos 1_000_000) n → IsNear (n *ℤ pos 1_000_000) (pos m) r → back ≡ clipped_of (b +ℤ r) → 2 * (unsigned_abs (y -ℤ back) * m) ≤ m + 1_000_000
rounded-apart b y n r back m within near_n near_r back_is =
    let apart = scaled_diff (y -ℤ b) r m in
    let wide = scaled_abs (y -ℤ b -ℤ r) m in
    let closer : unsigned_abs (y -ℤ back) ≤ unsigned_abs (y -ℤ b -ℤ r) = omega (arith, ints, clamps) in
    let scaled = mul-le-mul_right m closer in
    omega (arith, ints)

-- the times of two beats so far apart
times-apart : (b s late start : ℤ) (m : ℕ) → IsNear ((s -ℤ b) *ℤ pos m) (pos 1_000_000) late → IsNear ((pos 0 -ℤ b) *ℤ pos m) (pos 1_000_000) start → unsigned_abs (late -ℤ start) * 1_000_000 ≤ unsigned_abs s * m + 1_000_000
times-apart b s late start m near_late near_start =
    let to_s = scaled_diff s b m in
    let to_start = scaled_diff (pos 0) b m in
    let wide = scaled_abs s m in
    omega (arith, ints)

-- at the slowest tempo they are exact
slowest-apart : (b s late start : ℤ) → unsigned_abs s ≤ 1 → IsNear ((s -ℤ b) *ℤ pos 3_000_000) (pos 1_000_000) late → IsNear ((pos 0 -ℤ b) *ℤ pos 3_000_000) (pos 1_000_000) start → unsigned_abs (late -ℤ start) ≤ 3
slowest-apart b s late start little near_late near_start =
    let of_late : late ≡ (s -ℤ b) *ℤ pos 3 = omega (arith, ints) in
    let of_start : start ≡ (pos 0 -ℤ b) *ℤ pos 3 = omega (arith, ints) in
    omega (arith, ints)

-- a shift hardly greater than the roundings moves the time by at most 3 microseconds
moved-slow : (b s late start : ℤ) (m : ℕ) → m ≤ 3_000_000 → unsigned_abs s ≤ 1 → IsNear ((s -ℤ b) *ℤ pos m) (pos 1_000_000) late → IsNear ((pos 0 -ℤ b) *ℤ pos m) (pos 1_000_000) start → unsigned_abs (late -ℤ start) ≤ 3
moved-slow b s late start m slow little near_late near_start =
    by_lt_z (pos m) (pos 3_000_000)
    (λ lt.
    let apart = times-apart b s late start m near_late near_start in
    let scaled = mul-le-mul_right m little in
    omega (arith, ints))
    (λ ge.
    let same : m ≡ 3_000_000 = omega (arith, ints) in
    slowest-apart b s late start little
    (subst (λ k. IsNear ((s -ℤ b) *ℤ pos k) (pos 1_000_000) late) same near_late)
    (subst (λ k. IsNear ((pos 0 -ℤ b) *ℤ pos k) (pos 1_000_000) start) same near_start))

moved-near : (b d s late start : ℤ) (m : ℕ) → m ≤ 3_000_000 → 2 * (unsigned_abs d * m) ≤ m + 1_000_000 → unsigned_abs s ≤ unsigned_abs d + 1 → IsNear ((s -ℤ b) *ℤ pos m) (pos 1_000_000) late → IsNear ((pos 0 -ℤ b) *ℤ pos m) (pos 1_000_000) start → unsigned_abs (late -ℤ start) ≤ 3
moved-near b d s late start m slow near_d near_s near_late near_start =
    by_lt_z (pos 1_000_000) (pos m)
    (λ lt.
    let none : unsigned_abs d ≤ 0 = by_lt_z (pos 0) (pos (unsigned_abs d))
    (λ some. let one : 1 ≤ unsigned_abs d = omega (arith, ints) in absurd (omega (arith, ints, mul-le-mul_right m one)))
    (λ le. omega (arith, ints)) in
    moved-slow b s late start m slow (omega arith) near_late near_start)
    (λ fast.
    let apart = times-apart b s late start m near_late near_start in
    let scaled = mul-le-mul_right m near_s in
    omega (arith, ints))

clipped-closer : (a b : ℤ) → unsigned_abs (clipped_of a -ℤ clipped_of b) ≤ unsigned_abs (a -ℤ b)
clipped-closer a b = omega (arith, ints, clamps)

near_scaled : (n mpb : ℤ) (m : ℕ) → mpb ≡ pos m → IsNear (n *ℤ pos m) (pos 1_000_000) (nearest_of (n *ℤ mpb) (pos 1_000_000))
near_scaled n mpb m is_m =
    subst (λ k. IsNear (n *ℤ k) (pos 1_000_000) (nearest_of (n *ℤ mpb) (pos 1_000_000))) is_m
    (nearest_of-IsNearest (n *ℤ mpb) (pos 1_000_000) (omega (arith, ints))).near

-- so far a shift moves the time origin, clipped or not
advance-near : (tl : Timeline) (d s : ℤ) (m : ℕ) → tl.mpb ≡ pos m → m ≤ 3_000_000 → 2 * (unsigned_abs d * m) ≤ m + 1_000_000 → unsigned_abs s ≤ unsigned_abs d + 1 → unsigned_abs (advance_of tl s) ≤ 3
unfolding advance_of time_at
advance-near tl d s m is_m slow near_d near_s =
    let kept = clipped_of s in
    let kept_near : unsigned_abs kept ≤ unsigned_abs d + 1 = omega (arith, ints, clamps) in
    let late = nearest_of ((kept -ℤ tl.beat) *ℤ tl.mpb) (pos 1_000_000) in
    let start = nearest_of ((pos 0 -ℤ tl.beat) *ℤ tl.mpb) (pos 1_000_000) in
    let close = moved-near tl.beat d kept late start m slow near_d kept_near (near_scaled (kept -ℤ tl.beat) tl.mpb m is_m) (near_scaled (pos 0 -ℤ tl.beat) tl.mpb m is_m) in
    let closer = clipped-closer (tl.time +ℤ late) (tl.time +ℤ start) in
    omega (arith, ints)

forced-time : (tl : Timeline) (beat at q d : ℤ) → IsTidy tl → 2 * (unsigned_abs d * unsigned_abs tl.mpb) ≤ unsigned_abs tl.mpb + 1_000_000 → unsigned_abs (shift_of tl beat at q) ≤ unsigned_abs d + 1 → unsigned_abs ((forced_of tl beat at q).time -ℤ tl.time) ≤ 3
unfolding forced_of
forced-time tl beat at q d tidy near_d near_s =
    let fastest = tidy.fastest in
    let slowest = tidy.slowest in
    let held = tidy.time in
    let natural = natural_of tl.mpb (omega (arith, ints)) in
    let is_m : tl.mpb ≡ pos natural.0 = natural.1 in
    let near_m = subst (λ k. 2 * (unsigned_abs d * unsigned_abs k) ≤ unsigned_abs k + 1_000_000) is_m near_d in
    let advance = advance_of tl (shift_of tl beat at q) in
    let close = advance-near tl d (shift_of tl beat at q) natural.0 is_m (omega (arith, ints)) near_m near_s in
    let closer = clipped-closer (tl.time -ℤ advance) tl.time in
    let same = clipped_of-same tl.time held in
    omega (arith, ints, closer, same, close)

-- ---- the request
-- its time, and the beat at that time
next_time_of-is : (tl : Timeline) (beat at q : ℤ) → IsUnclippedRequest tl beat at q → next_time_of tl beat at q ≡ wide_time_at tl (wide_decoded_of tl (wide_match_of tl beat at q) q)
unfolding next_time_of encoded_time time_at wide_decoded_of
next_time_of-is tl beat at q unclipped =
    let x = wide_match_of tl beat at q in
    let y = wide_decoded_of tl x q in
    ap (λ z. encoded_time tl z q) (clipped_of-same x unclipped.match)
    ∙ ap (time_at tl) (clipped_of-same y unclipped.decoded)
    ∙ clipped_of-same (wide_time_at tl y) unclipped.next_time

beat-near : (tl : Timeline) (y time : ℤ) → IsTidy tl → IsWithinLimit y → time ≡ wide_time_at tl y → 2 * (unsigned_abs (y -ℤ beat_at tl time) * unsigned_abs tl.mpb) ≤ unsigned_abs tl.mpb + 1_000_000
unfolding beat_at
beat-near tl y time tidy within time_is =
    let fastest = tidy.fastest in
    let natural = natural_of tl.mpb (omega (arith, ints)) in
    let m = natural.0 in
    let is_m : tl.mpb ≡ pos m = natural.1 in
    let n = nearest_of ((y -ℤ tl.beat) *ℤ tl.mpb) (pos 1_000_000) in
    let r = nearest_of (n *ℤ pos 1_000_000) tl.mpb in
    let past : time -ℤ tl.time ≡ n = omega (arith, ints) in
    let near_r = subst (λ k. IsNear (n *ℤ pos 1_000_000) k r) is_m (nearest_of-IsNearest (n *ℤ pos 1_000_000) tl.mpb (omega (arith, ints))).near in
    let back : beat_at tl time ≡ clipped_of (tl.beat +ℤ r) = ap (λ z. clipped_of (tl.beat +ℤ nearest_of (z *ℤ pos 1_000_000) tl.mpb)) past in
    let close = rounded-apart tl.beat y n r (beat_at tl time) m within (near_scaled (y -ℤ tl.beat) tl.mpb m is_m) near_r back in
    subst (λ k. 2 * (unsigned_abs (y -ℤ beat_at tl time) * unsigned_abs k) ≤ unsigned_abs k + 1_000_000) (sym is_m) close

-- the next match has the phase of the beat
decoded-phase : (tl : Timeline) (beat at : ℤ) (m : ℕ) → 0 < m → (k : ℤ) × (wide_decoded_of tl (wide_match_of tl beat at (pos m)) (pos m) ≡ tl.beat +ℤ beat +ℤ k *ℤ pos m)
decoded-phase tl beat at m some =
    let q = pos m in
    let x = wide_match_of tl beat at q in
    let of_match = phase-apart x beat m some (next_match_of-IsNextMatch (encoded_beat tl at q) beat q (omega (arith, ints))).phase in
    let of_beat = decoded-apart tl x m some in
    let sum = scaled_sum of_match.0 of_beat.0 m in
    (of_match.0 +ℤ of_beat.0, omega (arith, ints, of_match.1, of_beat.1, sum))

forced-later : (tl : Timeline) (beat at q : ℤ) → IsTidy tl → IsQuantum q → IsUnclippedRequest tl beat at q → unsigned_abs ((forced_of tl beat (next_time_of tl beat at q) q).time -ℤ tl.time) ≤ 3
forced-later tl beat at (pos zero) tidy quantum unclipped =
    let none = free-shift tl beat (next_time_of tl beat at (pos 0)) in
    forced-time tl beat (next_time_of tl beat at (pos 0)) (pos 0) (pos 0) tidy (omega (arith, ints)) (omega (arith, ints, none))
forced-later tl beat at (pos (suc n)) tidy quantum unclipped =
    let q = pos (suc n) in
    let time = next_time_of tl beat at q in
    let y = wide_decoded_of tl (wide_match_of tl beat at q) q in
    let phase = decoded-phase tl beat at (suc n) (omega arith) in
    forced-time tl beat time q (y -ℤ beat_at tl time) tidy
    (beat-near tl y time tidy unclipped.decoded (next_time_of-is tl beat at q unclipped))
    (shift-apart tl beat time y phase.0 (suc n) (omega arith) phase.1)
forced-later tl beat at (negsuc n) tidy quantum unclipped = absurd (omega (arith, ints, quantum.0))

if-true : (test : Bool) (a b : Timeline) → test ≡ true → (if test then a else b) ≡ a
if-true true a b e = refl
if-true false a b e = absurd (cc)

peers-forced : (peers : ℕ) (tl : Timeline) (beat at q : ℤ) → 0 < peers → requested_of peers tl beat at q ≡ forced_of tl beat (next_time_of tl beat at q) q
unfolding requested_of
peers-forced peers tl beat at q some =
    if-true (nat_lt 0 peers) (forced_of tl beat (next_time_of tl beat at q) q) (forced_of tl beat at q) (lt-ltb 0 peers some)

pub requested-origin : (peers : ℕ) (tl : Timeline) (beat at q : ℤ) → 0 < peers → IsQuantum q → pos 0 <ℤ q → IsUnclippedRequest tl beat at q → (k : ℤ) × ((requested_of peers tl beat at q).beat ≡ tl.beat +ℤ k *ℤ q)
requested-origin peers tl beat at q some quantum positive unclipped =
    let moved = forced-moved tl beat (next_time_of tl beat at q) q quantum positive unclipped.origin in
    (moved.0, ap (λ line. line.beat) (peers-forced peers tl beat at q some) ∙ moved.1)

pub requested-time : (peers : ℕ) (tl : Timeline) (beat at q : ℤ) → 0 < peers → IsTidy tl → IsQuantum q → IsUnclippedRequest tl beat at q → unsigned_abs ((requested_of peers tl beat at q).time -ℤ tl.time) ≤ 3
requested-time peers tl beat at q some tidy quantum unclipped =
    subst (λ line. unsigned_abs (line.time -ℤ tl.time) ≤ 3) (sym (peers-forced peers tl beat at q some)) (forced-later tl beat at q tidy quantum unclipped)
