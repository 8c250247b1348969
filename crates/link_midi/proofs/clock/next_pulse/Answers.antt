use Rattle.std.proofs.Common.{pos, ◌+ℤ◌, FitsSigned, rules, ap, refl, arith}
use Rattle.std.proofs.lemmas.Int.{ints, to_z-of_z}
use mir.Syntax.{w64}
use Rattle.link_midi.proofs.PulseLemmas.{sounds_at}
use Rattle.link_midi.proofs.PulseTimeLemmas.{next_within}
use Rattle.link_midi.proofs.EventLemmas.{wants_later}
use Rattle.link_midi.proofs.CountLemmas.{both_counts}
use Rattle.link_midi.proofs.ProgressLemmas.{has_all, has_few, has_more, has_fewer}
use Rattle.link_midi.proofs.clock.next_pulse.Goals as goal

pub overflow_add-place : goal.overflow_add-place
overflow_add-place c =
    let place = c.args.place.now in
    omega (arith, ints, next_within c.args.state.now.timeline (place.pulse +ℤ pos 1) place.from c.requires.tidy.timeline (ap (λ p. p +ℤ pos 1) c.requires.so_far.last))

pub overflow_add-place-in-Some : goal.overflow_add-place-in-Some
overflow_add-place-in-Some c =
    let place = c.args.place.now in
    omega (arith, ints, next_within c.args.state.now.timeline (place.pulse +ℤ pos 1) place.from c.requires.tidy.timeline (ap (λ p. p +ℤ pos 1) c.requires.so_far.last))

pub pulse_time-requires-clause-pulse : goal.pulse_time-requires-clause-pulse
pulse_time-requires-clause-pulse c =
    let place = c.args.place.now in
    let from : FitsSigned w64 place.from = search rules in
    let pulse : FitsSigned w64 place.pulse = search rules in
    let small = next_within c.args.state.now.timeline (place.pulse +ℤ pos 1) place.from c.requires.tidy.timeline (ap (λ p. p +ℤ pos 1) c.requires.so_far.last) in
    let next : FitsSigned w64 (place.pulse +ℤ pos 1) = omega (arith, ints) in
    simp (to_z-of_z w64 _ from, to_z-of_z w64 _ pulse, to_z-of_z w64 _ next) (ap (λ p. p +ℤ pos 1) c.requires.so_far.last)

pub returns-in-None-clause-clocks : goal.returns-in-None-clause-clocks
returns-in-None-clause-clocks c =
    let place = c.args.place.now in
    has_few c.args.state.now c.args.was place.running c.args.start c.args.end place.pulse place.from c.args.events.now.items c.requires.tidy.timeline c.requires.length c.requires.so_far

pub returns-in-None-clause-all : goal.returns-in-None-clause-all
returns-in-None-clause-all c =
    let place = c.args.place.now in
    let pulse : FitsSigned w64 place.pulse = search rules in
    let small = next_within c.args.state.now.timeline (place.pulse +ℤ pos 1) place.from c.requires.tidy.timeline (ap (λ p. p +ℤ pos 1) c.requires.so_far.last) in
    let next : FitsSigned w64 (place.pulse +ℤ pos 1) = omega (arith, ints) in
    let none = simp (to_z-of_z w64 _ pulse, to_z-of_z w64 _ next, to_z-of_z w64 _ c.ranges.end) at c.in-None.ensures.none in
    (has_all c.args.state.now c.args.was place.running c.args.start c.args.end place.pulse place.from c.args.events.now.items c.requires.tidy.timeline c.requires.so_far (omega (arith, ints, none))).0

pub returns-in-None-clause-runs : goal.returns-in-None-clause-runs
returns-in-None-clause-runs c =
    let place = c.args.place.now in
    let pulse : FitsSigned w64 place.pulse = search rules in
    let small = next_within c.args.state.now.timeline (place.pulse +ℤ pos 1) place.from c.requires.tidy.timeline (ap (λ p. p +ℤ pos 1) c.requires.so_far.last) in
    let next : FitsSigned w64 (place.pulse +ℤ pos 1) = omega (arith, ints) in
    let none = simp (to_z-of_z w64 _ pulse, to_z-of_z w64 _ next, to_z-of_z w64 _ c.ranges.end) at c.in-None.ensures.none in
    (has_all c.args.state.now c.args.was place.running c.args.start c.args.end place.pulse place.from c.args.events.now.items c.requires.tidy.timeline c.requires.so_far (omega (arith, ints, none))).1

pub send-place-requires-clause-pulses : goal.send-place-requires-clause-pulses
send-place-requires-clause-pulses c =
    let place = c.args.place.now in
    let from : FitsSigned w64 place.from = search rules in
    let pulse : FitsSigned w64 place.pulse = search rules in
    let at : FitsSigned w64 c.in-Some.at = search rules in
    let small = next_within c.args.state.now.timeline (place.pulse +ℤ pos 1) place.from c.requires.tidy.timeline (ap (λ p. p +ℤ pos 1) c.requires.so_far.last) in
    let next : FitsSigned w64 (place.pulse +ℤ pos 1) = omega (arith, ints) in
    let found = simp (to_z-of_z w64 _ pulse, to_z-of_z w64 _ next, to_z-of_z w64 _ from, to_z-of_z w64 _ c.ranges.end) at c.in-Some.ensures.some in
    simp (to_z-of_z w64 _ at) (sounds_at c.args.state.now.timeline c.in-Some.at (place.pulse +ℤ pos 1) found.there found.before)

pub send-place-requires-clause-wanted : goal.send-place-requires-clause-wanted
send-place-requires-clause-wanted c =
    let place = c.args.place.now in
    let from : FitsSigned w64 place.from = search rules in
    let pulse : FitsSigned w64 place.pulse = search rules in
    let at : FitsSigned w64 c.in-Some.at = search rules in
    let small = next_within c.args.state.now.timeline (place.pulse +ℤ pos 1) place.from c.requires.tidy.timeline (ap (λ p. p +ℤ pos 1) c.requires.so_far.last) in
    let next : FitsSigned w64 (place.pulse +ℤ pos 1) = omega (arith, ints) in
    let found = simp (to_z-of_z w64 _ pulse, to_z-of_z w64 _ next, to_z-of_z w64 _ from, to_z-of_z w64 _ c.ranges.end) at c.in-Some.ensures.some in
    simp (to_z-of_z w64 _ at) (λ runs. wants_later c.args.state.now place.from c.in-Some.at found.not_before (c.requires.so_far.wanted runs))

pub send-place-requires-clause-room : goal.send-place-requires-clause-room
send-place-requires-clause-room c =
    let place = c.args.place.now in
    let from : FitsSigned w64 place.from = search rules in
    let pulse : FitsSigned w64 place.pulse = search rules in
    let at : FitsSigned w64 c.in-Some.at = search rules in
    let small = next_within c.args.state.now.timeline (place.pulse +ℤ pos 1) place.from c.requires.tidy.timeline (ap (λ p. p +ℤ pos 1) c.requires.so_far.last) in
    let next : FitsSigned w64 (place.pulse +ℤ pos 1) = omega (arith, ints) in
    let found = simp (to_z-of_z w64 _ pulse, to_z-of_z w64 _ next, to_z-of_z w64 _ from, to_z-of_z w64 _ c.ranges.end) at c.in-Some.ensures.some in
    let fewer = has_fewer c.args.state.now c.args.was place.running c.args.start c.args.end place.pulse place.from c.in-Some.at (place.pulse +ℤ pos 1) c.args.events.now.items c.requires.tidy.timeline c.requires.length c.requires.so_far refl found in
    let both = both_counts c.args.events.now.items in
    omega (arith, c.requires.so_far.others)

pub send-place-requires-clause-space : goal.send-place-requires-clause-space
send-place-requires-clause-space c =
    let place = c.args.place.now in
    let from : FitsSigned w64 place.from = search rules in
    let pulse : FitsSigned w64 place.pulse = search rules in
    let at : FitsSigned w64 c.in-Some.at = search rules in
    let small = next_within c.args.state.now.timeline (place.pulse +ℤ pos 1) place.from c.requires.tidy.timeline (ap (λ p. p +ℤ pos 1) c.requires.so_far.last) in
    let next : FitsSigned w64 (place.pulse +ℤ pos 1) = omega (arith, ints) in
    let found = simp (to_z-of_z w64 _ pulse, to_z-of_z w64 _ next, to_z-of_z w64 _ from, to_z-of_z w64 _ c.ranges.end) at c.in-Some.ensures.some in
    let fewer = has_fewer c.args.state.now c.args.was place.running c.args.start c.args.end place.pulse place.from c.in-Some.at (place.pulse +ℤ pos 1) c.args.events.now.items c.requires.tidy.timeline c.requires.length c.requires.so_far refl found in
    let both = both_counts c.args.events.now.items in
    λ still. omega (arith, c.requires.so_far.begun still)

pub returns-in-Some-clause-more : goal.returns-in-Some-clause-more
returns-in-Some-clause-more c =
    let place = c.args.place.now in
    let from : FitsSigned w64 place.from = search rules in
    let pulse : FitsSigned w64 place.pulse = search rules in
    let at : FitsSigned w64 c.in-Some.at = search rules in
    let small = next_within c.args.state.now.timeline (place.pulse +ℤ pos 1) place.from c.requires.tidy.timeline (ap (λ p. p +ℤ pos 1) c.requires.so_far.last) in
    let next : FitsSigned w64 (place.pulse +ℤ pos 1) = omega (arith, ints) in
    let found = simp (to_z-of_z w64 _ pulse, to_z-of_z w64 _ next, to_z-of_z w64 _ from, to_z-of_z w64 _ c.ranges.end) at c.in-Some.ensures.some in
    let inside = found.inside in
    let not_before = found.not_before in
    let after : FitsSigned w64 (c.in-Some.at +ℤ pos 1) = omega (arith, ints) in
    let sent = simp (to_z-of_z w64 _ at) at c.send-place.ensures.sent in
    let runs = simp (to_z-of_z w64 _ at) at c.send-place.ensures.runs in
    let more = has_more c.args.state.now c.args.was place.running c.args.start c.args.end place.pulse place.from c.in-Some.at (place.pulse +ℤ pos 1) c.args.events.now.items c.requires.tidy.timeline c.requires.so_far refl found in
    simp (to_z-of_z w64 _ pulse, to_z-of_z w64 _ next, to_z-of_z w64 _ at, to_z-of_z w64 _ after)
    (rw (sent, runs) more)
