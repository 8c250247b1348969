-- The events so far are handed over.
use Rattle.std.proofs.Common.{◌≡◌}
use Rattle.link_commands.specs.MidiText.{midi_line_of}
use Rattle.link_commands.proofs.ReplayLemmas.{HasHandedEach}
use Rattle.link_commands.proofs.midi_lines.hand_midi_events.Given as goal

abbrev pub invariant-loop-event : goal.invariant-loop-event
invariant-loop-event g l =
    HasHandedEach midi_line_of l.events l.event-index (g.K.Sink.seen l.fn.out).told l.fn.outlet.kept.items (g.K.Sink.seen l.out).told l.outlet.kept.items
    × ((g.K.Sink.seen l.out).faults ≡ (g.K.Sink.seen l.fn.out).faults)
