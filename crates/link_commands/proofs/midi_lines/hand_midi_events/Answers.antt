use Rattle.std.proofs.Common.{◌∙◌, get_or, pos, arith}
use Rattle.std.proofs.lemmas.List.{get_or_default}
use Rattle.link_midi.specs.declared.message.MidiEvent.{MidiEvent}
use Rattle.link_midi.specs.declared.message.MidiMessage.TheVariants.{Clock}
use Rattle.link_commands.specs.MidiText.{midi_line_of}
use Rattle.link_commands.proofs.OutletLemmas.{on_failure}
use Rattle.link_commands.proofs.ReplayLemmas.{each_next, each_part, each_whole}
use Rattle.link_commands.proofs.midi_lines.hand_midi_events.Goals as goal

abbrev none : MidiEvent
none = record { at = pos 0; message = Clock }

pub loop-event-preserved : goal.loop-event-preserved
loop-event-preserved g c = (
  each_next midi_line_of c.args.events.now c.loop-event.event-index (get_or c.args.events.now c.loop-event.event-index none) _ _ _ _ _ _
      c.loop-event-test.true (get_or_default c.args.events.now c.loop-event.event-index none _ c.loop-event-test.true) c.loop-event.invariant.0
      (rw (c.as_slice.ensures.value, c.put_midi.ensures) at c.in_ok-put_line.ensures.kept),
  c.in_ok-put_line.ensures.quiet ∙ c.loop-event.invariant.1,
)

pub returns-in_err-put_line-clause-part : goal.returns-in_err-put_line-clause-part
returns-in_err-put_line-clause-part g c =
    on_failure c.from_residual.result
    (each_part midi_line_of c.args.events.now c.loop-event.event-index (get_or c.args.events.now c.loop-event.event-index none) _ _ _ _ _
    c.loop-event-test.true (get_or_default c.args.events.now c.loop-event.event-index none _ c.loop-event-test.true) c.loop-event.invariant.0
    (rw (c.as_slice.ensures.value, c.put_midi.ensures) at c.in_err-put_line.ensures.part))

pub returns-clause-kept : goal.returns-clause-kept
returns-clause-kept g c =
    each_whole midi_line_of c.args.events.now c.loop-event.event-index _ _ _ _ (omega arith) c.loop-event.invariant.0
