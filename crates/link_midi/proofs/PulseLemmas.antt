-- Pulses rise, by at most one in a microsecond and 400 in a second.
use Rattle.std.proofs.Common.{◌≡◌, ℤ, pos, ◌+ℤ◌, ◌-ℤ◌, ◌*ℤ◌, ◌≤ℤ◌, true, false, int_lt, refl, ap, sym, arith}
use Rattle.std.proofs.lemmas.Int.{ints}
use Rattle.lk_base.specs.Timeline.{IsTidy}
use Rattle.lk_base.specs.declared.timeline.Timeline.{Timeline}
use Rattle.timeline_math.specs.Clicks.{since}
use Rattle.timeline_math.proofs.ClickLemmas.{since-le, since-apart, div_parts}
use Rattle.link_midi.specs.Pulse.{IsPulse, pulse_of, pulses_at}

pub pulse_of-IsPulse : (tl : Timeline) (time : ℤ) → IsPulse tl time (pulse_of tl time)
unfolding pulse_of
pulse_of-IsPulse tl time =
    let parts = div_parts (pos 24 *ℤ since tl time) 1_000_000 (omega arith) in
    let low = parts.0 in
    let high = parts.1 in
    record { low = omega (arith, ints); high = omega (arith, ints) }

pub one_pulse : (tl : Timeline) (time p : ℤ) → IsPulse tl time p → p ≡ pulse_of tl time
one_pulse tl time p isp =
    let isq = pulse_of-IsPulse tl time in
    let a = isp.low in
    let b = isp.high in
    let c = isq.low in
    let d = isq.high in
    omega (arith, ints)

pub pulse-le : (tl : Timeline) (a b : ℤ) → IsTidy tl → a ≤ℤ b → pulse_of tl a ≤ℤ pulse_of tl b
pulse-le tl a b tidy le =
    let rises = since-le tl a b tidy le in
    let low = (pulse_of-IsPulse tl a).low in
    let high = (pulse_of-IsPulse tl b).high in
    omega (arith, ints)

pub pulse_step : (tl : Timeline) (time : ℤ) → IsTidy tl → pulse_of tl time ≤ℤ (pulse_of tl (time -ℤ pos 1) +ℤ pos 1)
pulse_step tl time tidy =
    let apart = since-apart tl (time -ℤ pos 1) 1 1_000_000 17 tidy refl (omega arith) in
    let back : time -ℤ pos 1 +ℤ pos 1 ≡ time = omega (arith, ints) in
    let same = ap (since tl) back in
    let low = (pulse_of-IsPulse tl time).low in
    let high = (pulse_of-IsPulse tl (time -ℤ pos 1)).high in
    omega (arith, ints)

-- in a second 400 at most
pub pulses-most : (tl : Timeline) (a b : ℤ) → IsTidy tl → b ≤ℤ (a +ℤ pos 1_000_000) → pulse_of tl b ≤ℤ (pulse_of tl a +ℤ pos 400)
pulses-most tl a b tidy near =
    let apart = since-apart tl a 1_000_000 1_000_000_000_000 16_650_017 tidy refl (omega arith) in
    let rises = since-le tl b (a +ℤ pos 1_000_000) tidy near in
    let low = (pulse_of-IsPulse tl b).low in
    let high = (pulse_of-IsPulse tl a).high in
    omega (arith, ints)

-- ---- whether a time pulses
pub quiet_at : (tl : Timeline) (time p : ℤ) → IsTidy tl → p ≡ pulse_of tl (time -ℤ pos 1) → pulse_of tl time ≡ p → pulses_at tl time ≡ false
unfolding pulses_at
quiet_at tl time p tidy e f =
    let same : false ≡ int_lt (pulse_of tl (time -ℤ pos 1)) (pulse_of tl time) = omega (arith, ints) in
    sym same

pub sounds_at : (tl : Timeline) (time p : ℤ) → pulse_of tl time ≡ p → pulse_of tl (time -ℤ pos 1) ≡ p -ℤ pos 1 → pulses_at tl time ≡ true
unfolding pulses_at
sounds_at tl time p e f =
    let same : true ≡ int_lt (pulse_of tl (time -ℤ pos 1)) (pulse_of tl time) = omega (arith, ints) in
    sym same
