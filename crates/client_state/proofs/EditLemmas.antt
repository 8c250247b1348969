-- What the edits keep.
use Rattle.std.proofs.Common.{◌≡◌, ℕ, ◌<◌, ◌≤◌, ℤ, pos, negsuc, ◌+ℤ◌, ◌-ℤ◌, ◌*ℤ◌, ◌<ℤ◌, ◌≤ℤ◌, neg_ℤ, unsigned_abs, ap, ◌∙◌, arith}
use Rattle.std.proofs.lemmas.Int.{ints, clamps}
use Rattle.lk_base.specs.Ranges.{IsQuantum, IsWithinLimit}
use Rattle.lk_base.specs.Rounding.{clipped_of, nearest_of}
use Rattle.lk_base.specs.Timeline.{IsTidy}
use Rattle.lk_base.specs.declared.timeline.Timeline.{Timeline}
use Rattle.lk_base.proofs.RoundingLemmas.{nearest_of-IsNearest, clipped_of-same, clipped_of-within, scaled_neg}
use Rattle.timeline_math.specs.Beats.{beat_at, time_at}
use Rattle.timeline_math.specs.Encoding.{encoded_beat}
use Rattle.timeline_math.specs.Quantum.{phase_of, closest_match_of}
use Rattle.timeline_math.specs.Tidying.{clamped_of}
use Rattle.timeline_math.proofs.EncodingLemmas.{encoded_beat-near, encoded_beat-phase}
use Rattle.timeline_math.proofs.QuantumLemmas.{closest_match_of-near, closest_match_of-phase, phase_of-divides}
use Rattle.client_state.specs.Edits.{timeline_at, tempo_set_of, match_of, shift_of, advance_of, forced_of}
use Rattle.client_state.specs.Unclipped.{IsUnclippedTempo, IsUnclippedForce, wide_beat_at, wide_time_at}
use Rattle.client_state.proofs.RoundLemmas.{undone, scaled_diff, advanced_near, natural_of}

pub beat_at-within : (tl : Timeline) (time : ℤ) → IsWithinLimit (beat_at tl time)
unfolding beat_at
beat_at-within tl time =
    clipped_of-within (tl.beat +ℤ nearest_of ((time -ℤ tl.time) *ℤ pos 1_000_000) tl.mpb)

-- ---- a tempo

-- the time of a beat origin, seen from the beat b at a time, and the beat at that time again
tempo_at : (b at origin m : ℤ) → pos 60_060 ≤ℤ m → IsWithinLimit b → IsWithinLimit (at +ℤ nearest_of ((origin -ℤ b) *ℤ m) (pos 1_000_000)) → unsigned_abs (clipped_of (origin +ℤ nearest_of ((at -ℤ clipped_of (at +ℤ nearest_of ((origin -ℤ b) *ℤ m) (pos 1_000_000))) *ℤ pos 1_000_000) m) -ℤ b) ≤ 8
tempo_at b at origin (pos m) fast within unclipped =
    let n = nearest_of ((origin -ℤ b) *ℤ pos m) (pos 1_000_000) in
    let time = clipped_of (at +ℤ n) in
    let same : time ≡ at +ℤ n = clipped_of-same (at +ℤ n) unclipped in
    let r = nearest_of ((at -ℤ time) *ℤ pos 1_000_000) (pos m) in
    let near_n = (nearest_of-IsNearest ((origin -ℤ b) *ℤ pos m) (pos 1_000_000) (omega (arith, ints))).near in
    let near_r = (nearest_of-IsNearest ((at -ℤ time) *ℤ pos 1_000_000) (pos m) (omega (arith, ints))).near in
    let close = undone (origin -ℤ b) n (at -ℤ time) r m (omega (arith, ints)) near_n (omega (arith, ints, same)) near_r in
    omega (arith, ints, clamps, close)
tempo_at b at origin (negsuc m) fast within unclipped = absurd (omega (arith, ints))

pub tempo_set-beat : (tl : Timeline) (mpb at : ℤ) → IsUnclippedTempo tl mpb at → unsigned_abs (beat_at (tempo_set_of tl mpb at) at -ℤ beat_at tl at) ≤ 8
unfolding tempo_set_of beat_at time_at
tempo_set-beat tl mpb at unclipped =
    tempo_at (beat_at tl at) at tl.beat (clamped_of mpb) (omega (arith, ints, clamps)) (beat_at-within tl at) unclipped

-- ---- a forced beat

-- numbers of one phase are a multiple of the quantum apart
pub phase-apart : (x y : ℤ) (m : ℕ) → 0 < m → phase_of x (pos m) ≡ phase_of y (pos m) → (k : ℤ) × (x ≡ y +ℤ k *ℤ pos m)
phase-apart x y m some same =
    let byx = phase_of-divides x m some in
    let byy = phase_of-divides y m some in
    let apart = scaled_diff byx.0 byy.0 m in
    (byx.0 -ℤ byy.0, omega (arith, ints, byx.1, byy.1))

advance_of-is : (tl : Timeline) (shift : ℤ) → IsWithinLimit shift → IsWithinLimit (wide_time_at tl shift) → IsWithinLimit (wide_time_at tl (pos 0)) → advance_of tl shift ≡ nearest_of ((shift -ℤ tl.beat) *ℤ tl.mpb) (pos 1_000_000) -ℤ nearest_of ((pos 0 -ℤ tl.beat) *ℤ tl.mpb) (pos 1_000_000)
unfolding advance_of time_at
advance_of-is tl shift within late zero_time =
    let same = ap (time_at tl) (clipped_of-same shift within) in
    omega (arith, ints, clamps, same)

-- where the beat at a time comes to lie, past the new origin
forced-near : (tl : Timeline) (m : ℕ) (at shift moved : ℤ) → tl.mpb ≡ pos m → 60_060 ≤ m → moved ≡ tl.time -ℤ (nearest_of ((shift -ℤ tl.beat) *ℤ tl.mpb) (pos 1_000_000) -ℤ nearest_of ((pos 0 -ℤ tl.beat) *ℤ tl.mpb) (pos 1_000_000)) → unsigned_abs (nearest_of ((at -ℤ moved) *ℤ pos 1_000_000) tl.mpb -ℤ (nearest_of ((at -ℤ tl.time) *ℤ pos 1_000_000) tl.mpb +ℤ shift)) ≤ 17
forced-near tl m at shift moved is_m fast moved_is =
    rw is_m
    (let million : pos 1 ≤ℤ pos 1_000_000 = omega (arith, ints) in
    let some : pos 1 ≤ℤ pos m = omega (arith, ints) in
    advanced_near tl.beat tl.time at shift (nearest_of ((shift -ℤ tl.beat) *ℤ pos m) (pos 1_000_000)) (nearest_of ((pos 0 -ℤ tl.beat) *ℤ pos m) (pos 1_000_000)) moved (nearest_of ((at -ℤ tl.time) *ℤ pos 1_000_000) (pos m)) (nearest_of ((at -ℤ moved) *ℤ pos 1_000_000) (pos m)) m fast
    (nearest_of-IsNearest ((shift -ℤ tl.beat) *ℤ pos m) (pos 1_000_000) million).near
    (nearest_of-IsNearest ((pos 0 -ℤ tl.beat) *ℤ pos m) (pos 1_000_000) million).near
    (moved_is ∙ ap (λ d. tl.time -ℤ (nearest_of ((shift -ℤ tl.beat) *ℤ d) (pos 1_000_000) -ℤ nearest_of ((pos 0 -ℤ tl.beat) *ℤ d) (pos 1_000_000))) is_m)
    (nearest_of-IsNearest ((at -ℤ tl.time) *ℤ pos 1_000_000) (pos m) some).near
    (nearest_of-IsNearest ((at -ℤ moved) *ℤ pos 1_000_000) (pos m) some).near)

pub forced-origin : (tl : Timeline) (beat at q : ℤ) → IsTidy tl → IsUnclippedForce tl beat at q → unsigned_abs (beat_at (forced_of tl beat at q) at -ℤ (forced_of tl beat at q).beat -ℤ (beat_at tl at -ℤ tl.beat +ℤ shift_of tl beat at q)) ≤ 17
unfolding beat_at forced_of
forced-origin tl beat at q tidy unclipped =
    let fastest = tidy.fastest in
    let natural = natural_of tl.mpb (omega (arith, ints)) in
    let shift = shift_of tl beat at q in
    let before = clipped_of-same (wide_beat_at tl at) unclipped.before in
    let after = clipped_of-same (wide_beat_at (forced_of tl beat at q) at) unclipped.after in
    let moved = (forced_of tl beat at q).time in
    let moved_is = clipped_of-same (tl.time -ℤ advance_of tl shift) unclipped.time ∙ ap (λ z. tl.time -ℤ z) (advance_of-is tl shift unclipped.shift unclipped.shifted_time unclipped.zero_time) in
    let close = forced-near tl natural.0 at shift moved natural.1 (omega (arith, ints, natural.1)) moved_is in
    omega (arith, ints, before, after, close)

pub forced-quantum : (tl : Timeline) (beat at q : ℤ) → IsTidy tl → IsQuantum q → pos 0 <ℤ q → IsUnclippedForce tl beat at q → (k : ℤ) × (unsigned_abs ((beat_at (forced_of tl beat at q) at -ℤ (forced_of tl beat at q).beat) -ℤ (beat +ℤ k *ℤ q)) ≤ 17)
unfolding shift_of match_of
forced-quantum tl beat at (pos m) tidy quantum positive unclipped =
    let q = pos m in
    let some : 0 < m = omega (arith, ints) in
    let here = encoded_beat tl at q in
    let there = match_of tl beat at q in
    let of_here = phase-apart here (beat_at tl at -ℤ tl.beat) m some (encoded_beat-phase tl at q quantum.0) in
    let of_there = phase-apart there beat m some (closest_match_of-phase here beat q quantum.0) in
    let close = forced-origin tl beat at q tidy unclipped in
    let apart = scaled_diff of_there.0 of_here.0 m in
    (of_there.0 -ℤ of_here.0, omega (arith, ints, of_here.1, of_there.1, close, apart))
forced-quantum tl beat at (negsuc m) tidy quantum positive unclipped = absurd (omega (arith, ints))

-- the beat origin moves by whole quanta
pub forced-moved : (tl : Timeline) (beat at q : ℤ) → IsQuantum q → pos 0 <ℤ q → IsWithinLimit (tl.beat +ℤ (beat -ℤ match_of tl beat at q)) → (k : ℤ) × ((forced_of tl beat at q).beat ≡ tl.beat +ℤ k *ℤ q)
unfolding forced_of match_of
forced-moved tl beat at (pos m) quantum positive unclipped =
    let q = pos m in
    let here = encoded_beat tl at q in
    let there = match_of tl beat at q in
    let apart = phase-apart there beat m (omega (arith, ints)) (closest_match_of-phase here beat q quantum.0) in
    let turned = scaled_neg apart.0 m in
    let origin = clipped_of-same (tl.beat +ℤ (beat -ℤ there)) unclipped in
    (neg_ℤ apart.0, omega (arith, ints, apart.1, turned, origin))
forced-moved tl beat at (negsuc m) quantum positive unclipped = absurd (omega (arith, ints))

-- without a quantum nothing is shifted
pub free-shift : (tl : Timeline) (beat at : ℤ) → shift_of tl beat at (pos 0) ≡ pos 0
unfolding shift_of match_of
free-shift tl beat at =
    let near = closest_match_of-near (encoded_beat tl at (pos 0)) beat (pos 0) (omega (arith, ints)) in
    omega (arith, ints, near)

free-match : (tl : Timeline) (beat at : ℤ) → match_of tl beat at (pos 0) ≡ beat_at tl at
unfolding match_of
free-match tl beat at =
    let near = closest_match_of-near (encoded_beat tl at (pos 0)) beat (pos 0) (omega (arith, ints)) in
    let encoded = encoded_beat-near tl at (pos 0) (omega (arith, ints)) in
    omega (arith, ints, near, encoded)

no_advance : (tl : Timeline) → advance_of tl (pos 0) ≡ pos 0
unfolding advance_of
no_advance tl = omega (arith, ints)

pub forced-free : (tl : Timeline) (beat at : ℤ) → IsUnclippedForce tl beat at (pos 0) → beat_at (forced_of tl beat at (pos 0)) at ≡ beat
unfolding beat_at forced_of
forced-free tl beat at unclipped =
    let q = pos 0 in
    let before = clipped_of-same (wide_beat_at tl at) unclipped.before in
    let after = clipped_of-same (wide_beat_at (forced_of tl beat at q) at) unclipped.after in
    let origin = clipped_of-same (tl.beat +ℤ (beat -ℤ match_of tl beat at q)) unclipped.origin in
    let there = free-match tl beat at in
    let advance = ap (advance_of tl) (free-shift tl beat at) ∙ no_advance tl in
    let time : (forced_of tl beat at q).time ≡ tl.time = omega (arith, ints, clipped_of-same (tl.time -ℤ advance_of tl (shift_of tl beat at q)) unclipped.time, advance) in
    let same = ap (λ t. nearest_of ((at -ℤ t) *ℤ pos 1_000_000) tl.mpb) time in
    omega (arith, ints, before, after, origin, there, same)

-- ---- for the answer of a call: a forced timeline, from the numbers that the code finds on the way
pub forced_of-from : (tl : Timeline) (beat at q here there origin time : ℤ) → here ≡ encoded_beat tl at q → there ≡ closest_match_of here beat q → origin ≡ clipped_of (tl.beat +ℤ (beat -ℤ there)) → time ≡ clipped_of (tl.time -ℤ advance_of tl (there -ℤ here)) → timeline_at tl.mpb origin time ≡ forced_of tl beat at q
unfolding forced_of shift_of match_of
forced_of-from tl beat at q here there origin time here_is there_is origin_is time_is =
    let match = match_of tl beat at q in
    let same : there ≡ match = there_is ∙ ap (λ h. closest_match_of h beat q) here_is in
    ap (λ z. timeline_at tl.mpb z time) (origin_is ∙ ap (λ n. clipped_of (tl.beat +ℤ (beat -ℤ n))) same)
    ∙ ap (timeline_at tl.mpb (clipped_of (tl.beat +ℤ (beat -ℤ match))))
    (time_is
    ∙ ap (λ n. clipped_of (tl.time -ℤ advance_of tl (n -ℤ here))) same
    ∙ ap (λ h. clipped_of (tl.time -ℤ advance_of tl (match -ℤ h))) here_is)
