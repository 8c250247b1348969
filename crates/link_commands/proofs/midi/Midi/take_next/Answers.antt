use Rattle.std.proofs.Common.{arith}
use Rattle.std.proofs.lemmas.Int.{ints}
use Rattle.link_node.specs.Event.{event_value}
use Rattle.link_commands.proofs.MidiLemmas.{none_due, none_left, takes_next}
use Rattle.link_commands.proofs.ReplayingLemmas.{goes_on_says, event_fits}
use Rattle.link_commands.proofs.midi.Midi.take_next.Goals as goal

pub next_event-requires : goal.next_event-requires
next_event-requires c = goes_on_says _ _ _ _ c.args.text.now c.args.at.now c.requires.0 c.requires.1 c.requires.2

pub returns-in_default-clause-none : goal.returns-in_default-clause-none
returns-in_default-clause-none c m es on = (none_left c.args.time es (c.in_default.ensures.none _ _ es on.says), on)

pub step-requires-clause-event : goal.step-requires-clause-event
step-requires-clause-event c =
    event_fits c.scripts_fit_nodes.ensures.fit _ _ _ _ c.args.text.now c.args.at.now c.next_event.new.at c.requires.0 c.requires.1 (event_value c.in-Some.event) c.requires.2 c.in-Some.ensures.some

pub returns-clause-taken : goal.returns-clause-taken
returns-clause-taken c =
    takes_next _ _ _ _ _ _ _ _ c.args.text.now c.args.at.now c.next_event.new.at c.args.time (event_value c.in-Some.event)
    c.in-Some.ensures.some (omega (arith, ints, c.moment.ensures)) c.step.ensures.stands c.step.ensures.gates c.step.ensures.app c.step.ensures.audio

pub returns-then-moment-time-clause-none : goal.returns-then-moment-time-clause-none
returns-then-moment-time-clause-none c m es on =
    let found = c.in-Some.ensures.some _ _ es on.says in
    (none_due c.args.time (event_value c.in-Some.event) es found.0 found.1 (omega (arith, ints, c.moment.ensures)), on)
