use Rattle.std.proofs.Common.{refl, ◌∙◌}
use Rattle.std.proofs.lemmas.Bool.{OnTrue_at, OnFalse_at}
use Rattle.std.proofs.lemmas.List.{get_or_default}
use Rattle.drum_machine.proofs.PlayedLemmas.{front_of_lines, no_lines, none_of_midi, one_more_line}
use Rattle.drum_machine.proofs.player.write_lines.Goals as goal

pub loop-event-init : goal.loop-event-init
loop-event-init g c = record { lines = no_lines _; faults = refl }

pub returns-then-not-write_whole-clause-part : goal.returns-then-not-write_whole-clause-part
returns-then-not-write_whole-clause-part g c =
    front_of_lines c.args.events.now c.loop-event.event-index _ _ _ _ _ c.loop-event-test.true
    (get_or_default c.args.events.now c.loop-event.event-index none_of_midi _ c.loop-event-test.true)
    (c.as_slice.ensures.value ∙ c.put_midi.ensures) c.loop-event.invariant.lines (OnFalse_at c.if-not-write_whole.true c.write_whole.ensures.part)

pub loop-event-preserved : goal.loop-event-preserved
loop-event-preserved g c = record {
  lines = one_more_line c.args.events.now c.loop-event.event-index _ _ _ _ _ c.loop-event-test.true
      (get_or_default c.args.events.now c.loop-event.event-index none_of_midi _ c.loop-event-test.true)
      (c.as_slice.ensures.value ∙ c.put_midi.ensures) c.loop-event.invariant.lines (OnTrue_at c.if-not-write_whole.false c.write_whole.ensures.whole);
  faults = OnTrue_at c.if-not-write_whole.false c.write_whole.ensures.quiet ∙ c.loop-event.invariant.faults;
}
