-- When a pulse comes.
use Rattle.std.proofs.Common.{◌≡◌, ◌+◌, ◌^◌, ℤ, pos, negsuc, neg_ℤ, ◌+ℤ◌, ◌-ℤ◌, ◌*ℤ◌, ◌<ℤ◌, ◌≤ℤ◌, arith}
use Rattle.std.proofs.lemmas.Int.{ints, clamps, by_lt_z}
use Rattle.lk_base.specs.Ranges.{IsWithin}
use Rattle.lk_base.specs.Rounding.{nearest_of}
use Rattle.lk_base.specs.Timeline.{IsTidy}
use Rattle.lk_base.specs.declared.timeline.Timeline.{Timeline}
use Rattle.lk_base.proofs.RoundingLemmas.{scaled_le, nearest_of-IsNearest}
use Rattle.timeline_math.specs.Beats.{beat_at}
use Rattle.timeline_math.specs.Clicks.{since}
use Rattle.timeline_math.proofs.ClickLemmas.{since-le, since-within, never, not_low, not_earlier}
use Rattle.link_midi.specs.Pulse.{pulse_of}
use Rattle.link_midi.specs.Progress.{IsBeatOf, IsPulseTime}
use Rattle.link_midi.proofs.PulseLemmas.{pulse_of-IsPulse, pulse-le, pulse_step}

-- a pulse is passed exactly where so many microbeats are
pub passed : (tl : Timeline) (time pulse whole : ℤ) → IsBeatOf pulse whole → whole ≤ℤ since tl time → pulse ≤ℤ pulse_of tl time
passed tl time pulse whole beat there =
    let first = beat.there in
    let high = (pulse_of-IsPulse tl time).high in
    omega (arith, ints)

pub not_passed : (tl : Timeline) (time pulse whole : ℤ) → IsBeatOf pulse whole → since tl time <ℤ whole → pulse_of tl time <ℤ pulse
not_passed tl time pulse whole beat ahead =
    let before = beat.before in
    let low = (pulse_of-IsPulse tl time).low in
    omega (arith, ints)

pub ahead_of : (tl : Timeline) (time pulse whole : ℤ) → IsBeatOf pulse whole → pulse_of tl time <ℤ pulse → since tl time <ℤ whole
ahead_of tl time pulse whole beat lt =
    by_lt_z (since tl time) whole
    (λ ahead. ahead)
    (λ there. let le = passed tl time pulse whole beat there in absurd (omega (arith, ints)))

-- above half before a multiple the nearest quotient is the whole one at least
nearest_reached : (n q d : ℤ) → pos 1 ≤ℤ d → (pos 2 *ℤ (q *ℤ d) -ℤ d) <ℤ (pos 2 *ℤ n) → q ≤ℤ nearest_of n d
nearest_reached n q (pos m) h more =
    let r = nearest_of n (pos m) in
    let near = (nearest_of-IsNearest n (pos m) h).near in
    by_lt_z r q
    (λ lt. let apart = scaled_le r q 1 m (omega (arith, ints)) in absurd (omega (arith, ints)))
    (λ ge. ge)
nearest_reached n q (negsuc m) h more = absurd (omega (arith, ints))

nearest_unreached : (n q d : ℤ) → pos 1 ≤ℤ d → (pos 2 *ℤ n) <ℤ (pos 2 *ℤ (q *ℤ d) -ℤ d) → nearest_of n d <ℤ q
nearest_unreached n q (pos m) h less =
    let r = nearest_of n (pos m) in
    let near = (nearest_of-IsNearest n (pos m) h).near in
    by_lt_z r q
    (λ lt. lt)
    (λ ge. let apart = scaled_le q r 0 m (omega (arith, ints)) in absurd (omega (arith, ints)))
nearest_unreached n q (negsuc m) h less = absurd (omega (arith, ints))

-- what `time_of` gives
pub record IsTimeOf (tl : Timeline) (whole time : ℤ) : Type 0 where
  pub early : ((time -ℤ tl.time -ℤ pos 1) *ℤ pos 2_000_000) ≤ℤ (pos 2 *ℤ (whole *ℤ tl.mpb) -ℤ tl.mpb)
  pub late : (pos 2 *ℤ (whole *ℤ tl.mpb) -ℤ tl.mpb) <ℤ ((time -ℤ tl.time) *ℤ pos 2_000_000)

pub reached : (tl : Timeline) (whole time : ℤ) → IsTidy tl → (tl.beat +ℤ whole) ≤ℤ pos (2 ^ 60) → IsTimeOf tl whole time → whole ≤ℤ since tl time
unfolding since beat_at
reached tl whole time tidy fits at =
    let fastest = tidy.fastest in
    let late = at.late in
    let n = (time -ℤ tl.time) *ℤ pos 1_000_000 in
    let there = nearest_reached n whole tl.mpb (omega (arith, ints)) (omega (arith, ints)) in
    omega (arith, ints, clamps)

unreached_by : (tl : Timeline) (whole time : ℤ) → IsTidy tl → neg_ℤ (pos (2 ^ 60)) <ℤ (tl.beat +ℤ whole) → IsTimeOf tl whole time → since tl (time -ℤ pos 2) <ℤ whole
unfolding since beat_at
unreached_by tl whole time tidy low at =
    let fastest = tidy.fastest in
    let early = at.early in
    let n = (time -ℤ pos 2 -ℤ tl.time) *ℤ pos 1_000_000 in
    let short = nearest_unreached n whole tl.mpb (omega (arith, ints)) (omega (arith, ints)) in
    omega (arith, ints, clamps)

pub unreached : (tl : Timeline) (whole from time : ℤ) → IsTidy tl → since tl from <ℤ whole → IsTimeOf tl whole time → since tl (time -ℤ pos 2) <ℤ whole
unreached tl whole from time tidy ahead at = unreached_by tl whole time tidy (not_low tl whole from tidy ahead) at

-- ---- the time of a pulse, once the first microsecond is known at which its microbeats are reached
pub pulse_there : (tl : Timeline) (pulse whole at : ℤ) → IsTidy tl → IsBeatOf pulse whole → since tl (at -ℤ pos 1) <ℤ whole → whole ≤ℤ since tl at → (pulse_of tl at ≡ pulse) × (pulse_of tl (at -ℤ pos 1) ≡ pulse -ℤ pos 1)
pulse_there tl pulse whole at tidy beat ahead there =
    let le = passed tl at pulse whole beat there in
    let lt = not_passed tl (at -ℤ pos 1) pulse whole beat ahead in
    let step = pulse_step tl at tidy in
    (omega (arith, ints), omega (arith, ints))

pub none_before : (tl : Timeline) (pulse whole from end : ℤ) → IsTidy tl → IsBeatOf pulse whole → from ≤ℤ end → pulse ≡ pulse_of tl (from -ℤ pos 1) +ℤ pos 1 → since tl (end -ℤ pos 1) <ℤ whole → pulse_of tl (end -ℤ pos 1) ≡ pulse -ℤ pos 1
none_before tl pulse whole from end tidy beat order e ahead =
    let lt = not_passed tl (end -ℤ pos 1) pulse whole beat ahead in
    let rises = pulse-le tl (from -ℤ pos 1) (end -ℤ pos 1) tidy (omega (arith, ints)) in
    omega (arith, ints)

-- ---- the next pulse from a time on

pub next_within : (tl : Timeline) (pulse from : ℤ) → IsTidy tl → pulse ≡ pulse_of tl (from -ℤ pos 1) +ℤ pos 1 → IsWithin (2 ^ 46) pulse
next_within tl pulse from tidy e =
    let isp = pulse_of-IsPulse tl (from -ℤ pos 1) in
    let low = isp.low in
    let high = isp.high in
    omega (arith, ints, since-within tl (from -ℤ pos 1) tidy)

pub whole_within : (tl : Timeline) (pulse whole from : ℤ) → IsTidy tl → pulse ≡ pulse_of tl (from -ℤ pos 1) +ℤ pos 1 → IsBeatOf pulse whole → IsWithin (2 ^ 61 + 2 ^ 20) whole
whole_within tl pulse whole from tidy e beat =
    let isp = pulse_of-IsPulse tl (from -ℤ pos 1) in
    let low = isp.low in
    let high = isp.high in
    let there = beat.there in
    let before = beat.before in
    omega (arith, ints, since-within tl (from -ℤ pos 1) tidy)

pub ahead : (tl : Timeline) (pulse whole from : ℤ) → IsBeatOf pulse whole → pulse ≡ pulse_of tl (from -ℤ pos 1) +ℤ pos 1 → since tl (from -ℤ pos 1) <ℤ whole
ahead tl pulse whole from beat e = ahead_of tl (from -ℤ pos 1) pulse whole beat (omega (arith, ints))

pub none_ever : (tl : Timeline) (pulse whole from end : ℤ) → IsTidy tl → IsBeatOf pulse whole → from ≤ℤ end → pulse ≡ pulse_of tl (from -ℤ pos 1) +ℤ pos 1 → pos (2 ^ 60) <ℤ (tl.beat +ℤ whole) → pulse_of tl (end -ℤ pos 1) ≡ pulse -ℤ pos 1
none_ever tl pulse whole from end tidy beat order e beyond = none_before tl pulse whole from end tidy beat order e (never tl whole (end -ℤ pos 1) tidy beyond)

pub none_by_time : (tl : Timeline) (pulse whole from end time : ℤ) → IsTidy tl → IsBeatOf pulse whole → from ≤ℤ end → pulse ≡ pulse_of tl (from -ℤ pos 1) +ℤ pos 1 → IsTimeOf tl whole time → end <ℤ time → pulse_of tl (end -ℤ pos 1) ≡ pulse -ℤ pos 1
none_by_time tl pulse whole from end time tidy beat order e at lt =
    let short = unreached tl whole (from -ℤ pos 1) time tidy (ahead tl pulse whole from beat e) at in
    let rises = since-le tl (end -ℤ pos 1) (time -ℤ pos 2) tidy (omega (arith, ints)) in
    none_before tl pulse whole from end tidy beat order e (omega (arith, ints))

pub none_by : (tl : Timeline) (pulse whole from end at : ℤ) → IsTidy tl → IsBeatOf pulse whole → from ≤ℤ end → pulse ≡ pulse_of tl (from -ℤ pos 1) +ℤ pos 1 → since tl (at -ℤ pos 1) <ℤ whole → end ≤ℤ at → pulse_of tl (end -ℤ pos 1) ≡ pulse -ℤ pos 1
none_by tl pulse whole from end at tidy beat order e before past =
    let rises = since-le tl (end -ℤ pos 1) (at -ℤ pos 1) tidy (omega (arith, ints)) in
    none_before tl pulse whole from end tidy beat order e (omega (arith, ints))

pub not_before : (tl : Timeline) (pulse whole from time : ℤ) → IsTidy tl → IsBeatOf pulse whole → pulse ≡ pulse_of tl (from -ℤ pos 1) +ℤ pos 1 → whole ≤ℤ since tl time → from ≤ℤ time
not_before tl pulse whole from time tidy beat e there = not_earlier tl whole time from tidy (ahead tl pulse whole from beat e) there

pub time_found : (tl : Timeline) (pulse whole from end at : ℤ) → IsTidy tl → IsBeatOf pulse whole → pulse ≡ pulse_of tl (from -ℤ pos 1) +ℤ pos 1 → since tl (at -ℤ pos 1) <ℤ whole → whole ≤ℤ since tl at → at <ℤ end → IsPulseTime tl pulse from end at
time_found tl pulse whole from end at tidy beat e before there lt =
    let both = pulse_there tl pulse whole at tidy beat before there in
    record { not_before = not_before tl pulse whole from at tidy beat e there; inside = lt; there = both.0; before = both.1 }
