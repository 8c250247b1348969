use Rattle.std.proofs.Common.{pos, ◌+ℤ◌, ◌*ℤ◌, ◌≤ℤ◌, ◌^◌, FitsSigned, rules, arith}
use Rattle.std.proofs.lemmas.Int.{ints, to_z-of_z}
use mir.Syntax.{w64}
use Rattle.timeline_math.proofs.ClickLemmas.{next_beat-within, not_before, reached, unreached}
use Rattle.timeline_math.proofs.MetronomeLemmas.{beat_time_is, none_at, none_before, none_ever}
use Rattle.timeline_math.proofs.metronome.beat_time.Goals as goal

pub overflow_mul-whole : goal.overflow_mul-whole
overflow_mul-whole c =
    omega (arith, ints, next_beat-within c.args.tl.now c.args.beats c.args.from c.requires.tidy c.requires.next)

pub overflow_add-tl : goal.overflow_add-tl
overflow_add-tl c =
    omega (arith, ints, next_beat-within c.args.tl.now c.args.beats c.args.from c.requires.tidy c.requires.next)

pub time_of-time-requires-clause-beats : goal.time_of-time-requires-clause-beats
time_of-time-requires-clause-beats c =
    omega (arith, ints, next_beat-within c.args.tl.now c.args.beats c.args.from c.requires.tidy c.requires.next)

pub returns-then-tl-whole-gt-LIMIT-clause-none : goal.returns-then-tl-whole-gt-LIMIT-clause-none
returns-then-tl-whole-gt-LIMIT-clause-none c =
    none_ever c.args.tl.now c.args.beats c.args.from c.args.end c.requires.tidy c.requires.next c.requires.order
    (omega (arith, ints, next_beat-within c.args.tl.now c.args.beats c.args.from c.requires.tidy c.requires.next))

pub returns-then-time-end-clause-none : goal.returns-then-time-end-clause-none
returns-then-time-end-clause-none c =
    let time_is = simp (to_z-of_z w64 _ c.ranges.beats) at c.time_of-time.ensures in
    none_before c.args.tl.now c.args.beats c.args.from c.args.end c.requires.tidy c.requires.next c.requires.order
    (omega (arith, ints))

pub first_at-at-requires-clause-time : goal.first_at-at-requires-clause-time
first_at-at-requires-clause-time c =
    let tl = c.args.tl.now in
    let k = c.args.beats in
    let small = next_beat-within tl k c.args.from c.requires.tidy c.requires.next in
    let fits : (tl.beat +ℤ k *ℤ pos 1_000_000) ≤ℤ pos (2 ^ 60) = omega (arith, ints) in
    let time_is = simp (to_z-of_z w64 _ c.ranges.beats) at c.time_of-time.ensures in
    omega (arith, ints, not_before tl k c.args.from c.time_of-time.result c.requires.tidy c.requires.next fits time_is)

pub first_at-at-requires-clause-reached : goal.first_at-at-requires-clause-reached
first_at-at-requires-clause-reached c =
    let tl = c.args.tl.now in
    let k = c.args.beats in
    let small = next_beat-within tl k c.args.from c.requires.tidy c.requires.next in
    let fits : (tl.beat +ℤ k *ℤ pos 1_000_000) ≤ℤ pos (2 ^ 60) = omega (arith, ints) in
    let whole : FitsSigned w64 (k *ℤ pos 1_000_000) = omega (arith, ints) in
    let time : FitsSigned w64 c.time_of-time.result = search rules in
    let time_is = simp (to_z-of_z w64 _ c.ranges.beats) at c.time_of-time.ensures in
    simp (to_z-of_z w64 _ c.ranges.beats, to_z-of_z w64 _ whole, to_z-of_z w64 _ time)
    (reached tl k c.time_of-time.result c.requires.tidy fits time_is)

pub first_at-at-requires-clause-unreached : goal.first_at-at-requires-clause-unreached
first_at-at-requires-clause-unreached c =
    let tl = c.args.tl.now in
    let k = c.args.beats in
    let small = next_beat-within tl k c.args.from c.requires.tidy c.requires.next in
    let whole : FitsSigned w64 (k *ℤ pos 1_000_000) = omega (arith, ints) in
    let time : FitsSigned w64 c.time_of-time.result = search rules in
    let time_is = simp (to_z-of_z w64 _ c.ranges.beats) at c.time_of-time.ensures in
    simp (to_z-of_z w64 _ c.ranges.beats, to_z-of_z w64 _ whole, to_z-of_z w64 _ time)
    (unreached tl k c.args.from c.time_of-time.result c.requires.tidy c.requires.next time_is)

pub returns-then-at-end-clause-some : goal.returns-then-at-end-clause-some
returns-then-at-end-clause-some c =
    let tl = c.args.tl.now in
    let k = c.args.beats in
    let small = next_beat-within tl k c.args.from c.requires.tidy c.requires.next in
    let whole : FitsSigned w64 (k *ℤ pos 1_000_000) = omega (arith, ints) in
    let time : FitsSigned w64 c.time_of-time.result = search rules in
    let time_is = simp (to_z-of_z w64 _ c.ranges.beats) at c.time_of-time.ensures in
    let at : FitsSigned w64 c.first_at-at.result = search rules in
    let first = c.first_at-at.ensures in
    let before = simp (to_z-of_z w64 _ c.ranges.beats, to_z-of_z w64 _ whole) at first.before in
    let there = simp (to_z-of_z w64 _ c.ranges.beats, to_z-of_z w64 _ whole) at first.there in
    simp (to_z-of_z w64 _ at)
    (beat_time_is tl k c.args.from c.args.end c.first_at-at.result c.requires.tidy c.requires.next (omega (arith, ints)) (omega (arith, ints, first.early)) (omega (arith, ints, first.late)) before there)

pub returns-else-at-end-clause-none : goal.returns-else-at-end-clause-none
returns-else-at-end-clause-none c =
    let tl = c.args.tl.now in
    let k = c.args.beats in
    let small = next_beat-within tl k c.args.from c.requires.tidy c.requires.next in
    let whole : FitsSigned w64 (k *ℤ pos 1_000_000) = omega (arith, ints) in
    let first = c.first_at-at.ensures in
    let before = simp (to_z-of_z w64 _ c.ranges.beats, to_z-of_z w64 _ whole) at first.before in
    none_at tl k c.args.from c.args.end c.first_at-at.result c.requires.tidy c.requires.next c.requires.order (omega (arith, ints)) before
