use Rattle.std.proofs.Common.{pos, ◌-ℤ◌, FitsSigned, rules, arith}
use Rattle.std.proofs.lemmas.Int.{ints, to_z-of_z}
use mir.Syntax.{w64}
use Rattle.link_midi.proofs.PulseTimeLemmas.{IsTimeOf, next_within, whole_within, ahead, none_ever, none_by_time, none_by, not_before, reached, unreached, time_found}
use Rattle.link_midi.proofs.pulse.pulse_time.Goals as goal

pub beat_of-whole-requires : goal.beat_of-whole-requires
beat_of-whole-requires c = omega (arith, ints, next_within c.args.tl.now c.args.pulse c.args.from c.requires.tidy c.requires.pulse)

pub time_of-time-requires-clause-whole : goal.time_of-time-requires-clause-whole
time_of-time-requires-clause-whole c =
    let beat = simp (to_z-of_z w64 _ c.ranges.pulse) at c.beat_of-whole.ensures.beat in
    omega (arith, ints, whole_within c.args.tl.now c.args.pulse c.beat_of-whole.result c.args.from c.requires.tidy c.requires.pulse beat)

pub returns-then-tl-whole-gt-LIMIT-clause-none : goal.returns-then-tl-whole-gt-LIMIT-clause-none
returns-then-tl-whole-gt-LIMIT-clause-none c =
    let beat = simp (to_z-of_z w64 _ c.ranges.pulse) at c.beat_of-whole.ensures.beat in
    none_ever c.args.tl.now c.args.pulse c.beat_of-whole.result c.args.from c.args.end c.requires.tidy beat c.requires.order c.requires.pulse (omega (arith, ints))

pub returns-then-time-end-clause-none : goal.returns-then-time-end-clause-none
returns-then-time-end-clause-none c =
    let whole : FitsSigned w64 c.beat_of-whole.result = search rules in
    let beat = simp (to_z-of_z w64 _ c.ranges.pulse) at c.beat_of-whole.ensures.beat in
    let early = simp (to_z-of_z w64 _ whole) at c.time_of-time.ensures.early in
    let late = simp (to_z-of_z w64 _ whole) at c.time_of-time.ensures.late in
    let at : IsTimeOf c.args.tl.now c.beat_of-whole.result c.time_of-time.result = record { early = early; late = late } in
    none_by_time c.args.tl.now c.args.pulse c.beat_of-whole.result c.args.from c.args.end c.time_of-time.result c.requires.tidy beat c.requires.order c.requires.pulse at (omega (arith, ints))

pub first_at-at-requires-clause-time : goal.first_at-at-requires-clause-time
first_at-at-requires-clause-time c =
    let whole : FitsSigned w64 c.beat_of-whole.result = search rules in
    let beat = simp (to_z-of_z w64 _ c.ranges.pulse) at c.beat_of-whole.ensures.beat in
    let early = simp (to_z-of_z w64 _ whole) at c.time_of-time.ensures.early in
    let late = simp (to_z-of_z w64 _ whole) at c.time_of-time.ensures.late in
    let at : IsTimeOf c.args.tl.now c.beat_of-whole.result c.time_of-time.result = record { early = early; late = late } in
    let there = reached c.args.tl.now c.beat_of-whole.result c.time_of-time.result c.requires.tidy (omega (arith, ints)) at in
    omega (arith, ints, not_before c.args.tl.now c.args.pulse c.beat_of-whole.result c.args.from c.time_of-time.result c.requires.tidy beat c.requires.pulse there)

pub first_at-at-requires-clause-reached : goal.first_at-at-requires-clause-reached
first_at-at-requires-clause-reached c =
    let whole : FitsSigned w64 c.beat_of-whole.result = search rules in
    let time : FitsSigned w64 c.time_of-time.result = search rules in
    let early = simp (to_z-of_z w64 _ whole) at c.time_of-time.ensures.early in
    let late = simp (to_z-of_z w64 _ whole) at c.time_of-time.ensures.late in
    let at : IsTimeOf c.args.tl.now c.beat_of-whole.result c.time_of-time.result = record { early = early; late = late } in
    simp (to_z-of_z w64 _ whole, to_z-of_z w64 _ time)
    (reached c.args.tl.now c.beat_of-whole.result c.time_of-time.result c.requires.tidy (omega (arith, ints)) at)

pub first_at-at-requires-clause-unreached : goal.first_at-at-requires-clause-unreached
first_at-at-requires-clause-unreached c =
    let whole : FitsSigned w64 c.beat_of-whole.result = search rules in
    let time : FitsSigned w64 c.time_of-time.result = search rules in
    let beat = simp (to_z-of_z w64 _ c.ranges.pulse) at c.beat_of-whole.ensures.beat in
    let early = simp (to_z-of_z w64 _ whole) at c.time_of-time.ensures.early in
    let late = simp (to_z-of_z w64 _ whole) at c.time_of-time.ensures.late in
    let at : IsTimeOf c.args.tl.now c.beat_of-whole.result c.time_of-time.result = record { early = early; late = late } in
    simp (to_z-of_z w64 _ whole, to_z-of_z w64 _ time)
    (unreached c.args.tl.now c.beat_of-whole.result (c.args.from -ℤ pos 1) c.time_of-time.result c.requires.tidy
    (ahead c.args.tl.now c.args.pulse c.beat_of-whole.result c.args.from beat c.requires.pulse) at)

pub returns-then-at-end-clause-some : goal.returns-then-at-end-clause-some
returns-then-at-end-clause-some c =
    let whole : FitsSigned w64 c.beat_of-whole.result = search rules in
    let at : FitsSigned w64 c.first_at-at.result = search rules in
    let beat = simp (to_z-of_z w64 _ c.ranges.pulse) at c.beat_of-whole.ensures.beat in
    let before = simp (to_z-of_z w64 _ whole) at c.first_at-at.ensures.before in
    let there = simp (to_z-of_z w64 _ whole) at c.first_at-at.ensures.there in
    simp (to_z-of_z w64 _ at)
    (time_found c.args.tl.now c.args.pulse c.beat_of-whole.result c.args.from c.args.end c.first_at-at.result c.requires.tidy beat c.requires.pulse before there (omega (arith, ints)))

pub returns-else-at-end-clause-none : goal.returns-else-at-end-clause-none
returns-else-at-end-clause-none c =
    let whole : FitsSigned w64 c.beat_of-whole.result = search rules in
    let beat = simp (to_z-of_z w64 _ c.ranges.pulse) at c.beat_of-whole.ensures.beat in
    let before = simp (to_z-of_z w64 _ whole) at c.first_at-at.ensures.before in
    none_by c.args.tl.now c.args.pulse c.beat_of-whole.result c.args.from c.args.end c.first_at-at.result c.requires.tidy beat c.requires.order c.requires.pulse before (omega (arith, ints))
