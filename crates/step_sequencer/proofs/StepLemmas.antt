-- Steps rise, by at most one in 15,000 microseconds and two in 20,000; frames rise, by 20,000 microseconds in 960.
use Rattle.std.proofs.Common.{◌≡◌, ℕ, ◌+◌, ◌≤◌, ℤ, pos, ◌+ℤ◌, ◌≤ℤ◌, refl, arith}
use Rattle.std.proofs.lemmas.Int.{ints}
use Rattle.lk_base.specs.Timeline.{IsTidy}
use Rattle.lk_base.specs.declared.timeline.Timeline.{Timeline}
use Rattle.timeline_math.specs.Clicks.{since}
use Rattle.timeline_math.proofs.ClickLemmas.{since-le, since-apart, div_parts}
use Rattle.step_sequencer.specs.Frames.{frame_time, before}
use Rattle.step_sequencer.specs.Steps.{IsStep, step_at}

pub step_at-IsStep : (tl : Timeline) (time : ℤ) → IsStep tl time (step_at tl time)
unfolding step_at
step_at-IsStep tl time =
    let parts = div_parts (since tl time) 250_000 (omega arith) in
    let low = parts.0 in
    let high = parts.1 in
    record { low = omega (arith, ints); high = omega (arith, ints) }

pub one_step : (tl : Timeline) (time n : ℤ) → IsStep tl time n → n ≡ step_at tl time
one_step tl time n isn =
    let ism = step_at-IsStep tl time in
    let a = isn.low in
    let b = isn.high in
    let c = ism.low in
    let d = ism.high in
    omega (arith, ints)

pub step-le : (tl : Timeline) (a b : ℤ) → IsTidy tl → a ≤ℤ b → step_at tl a ≤ℤ step_at tl b
step-le tl a b tidy le =
    let rises = since-le tl a b tidy le in
    let low = (step_at-IsStep tl a).low in
    let high = (step_at-IsStep tl b).high in
    omega (arith, ints)

pub step-single : (tl : Timeline) (a b : ℤ) → IsTidy tl → b ≤ℤ (a +ℤ pos 15_000) → step_at tl b ≤ℤ (step_at tl a +ℤ pos 1)
step-single tl a b tidy near =
    let apart = since-apart tl a 15_000 15_000_000_000 249_751 tidy refl (omega arith) in
    let rises = since-le tl b (a +ℤ pos 15_000) tidy near in
    let low = (step_at-IsStep tl b).low in
    let high = (step_at-IsStep tl a).high in
    omega (arith, ints)

step-double : (tl : Timeline) (a b : ℤ) → IsTidy tl → b ≤ℤ (a +ℤ pos 20_000) → step_at tl b ≤ℤ (step_at tl a +ℤ pos 2)
step-double tl a b tidy near =
    let apart = since-apart tl a 20_000 20_000_000_000 333_001 tidy refl (omega arith) in
    let rises = since-le tl b (a +ℤ pos 20_000) tidy near in
    let low = (step_at-IsStep tl b).low in
    let high = (step_at-IsStep tl a).high in
    omega (arith, ints)

-- ---- frames

pub frame_time-le : (origin : ℤ) (a b : ℕ) → a ≤ b → frame_time origin a ≤ℤ frame_time origin b
unfolding frame_time
frame_time-le origin a b le = omega (arith, ints)

frame_time-near : (origin : ℤ) (a b : ℕ) → b ≤ a + 960 → frame_time origin b ≤ℤ (frame_time origin a +ℤ pos 20_000)
unfolding frame_time
frame_time-near origin a b le = omega (arith, ints)

frame_time-next : (origin : ℤ) (a : ℕ) → frame_time origin (a + 1) ≤ℤ (frame_time origin a +ℤ pos 21)
unfolding frame_time
frame_time-next origin a = omega (arith, ints)

pub before-le : (tl : Timeline) (origin : ℤ) (a b : ℕ) → IsTidy tl → a ≤ b → step_at tl (before origin a) ≤ℤ step_at tl (before origin b)
before-le tl origin a b tidy le =
    let rises = frame_time-le origin a b le in
    step-le tl (before origin a) (before origin b) tidy (omega (arith, ints))

pub before-single : (tl : Timeline) (origin : ℤ) (a : ℕ) → IsTidy tl → step_at tl (before origin (a + 1)) ≤ℤ (step_at tl (before origin a) +ℤ pos 1)
before-single tl origin a tidy =
    let near = frame_time-next origin a in
    step-single tl (before origin a) (before origin (a + 1)) tidy (omega (arith, ints))

pub before-double : (tl : Timeline) (origin : ℤ) (a b : ℕ) → IsTidy tl → b ≤ a + 960 → step_at tl (before origin b) ≤ℤ (step_at tl (before origin a) +ℤ pos 2)
before-double tl origin a b tidy le =
    let near = frame_time-near origin a b le in
    step-double tl (before origin a) (before origin b) tidy (omega (arith, ints))
