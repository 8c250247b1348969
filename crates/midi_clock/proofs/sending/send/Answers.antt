use Rattle.std.proofs.Common.{List, refl, subst, ◌∙◌, take}
use Rattle.std.proofs.lemmas.Bool.{OnTrue_at, OnFalse_at}
use Rattle.std.proofs.lemmas.List.{take_all}
use Rattle.link_midi.specs.declared.message.MidiEvent.{MidiEvent}
use Rattle.midi_clock.specs.Player.{CountsMore}
use Rattle.midi_clock.proofs.SentLemmas.{is_cut, none_counted, none_sent_yet, one_more_counted, one_more_sent, still_few}
use Rattle.midi_clock.proofs.sending.send.Goals as goal

pub loop-event-init : goal.loop-event-init
loop-event-init g c = record { sent = none_sent_yet _; counted = none_counted _; faults = refl }

pub add-requires : goal.add-requires
add-requires g c = record { few = still_few c.args.events.now c.loop-event.event-index _ _ c.loop-event-test.true c.requires.few c.loop-event.invariant.counted }

pub returns-then-not-write_whole-clause-cut : goal.returns-then-not-write_whole-clause-cut
returns-then-not-write_whole-clause-cut g c = (
  take c.loop-event.event-index c.args.events.now,
  is_cut c.args.events.now c.loop-event.event-index _ c.loop-event-test.true _ _ _ _ (c.as_slice.ensures.value ∙ c.bytes.ensures)
      c.loop-event.invariant.sent (OnFalse_at c.if-not-write_whole.true c.write_whole.ensures.part),
  c.loop-event.invariant.counted,
)

pub loop-event-preserved : goal.loop-event-preserved
loop-event-preserved g c = record {
  sent = one_more_sent c.args.events.now c.loop-event.event-index _ c.loop-event-test.true _ _ _ _ (c.as_slice.ensures.value ∙ c.bytes.ensures)
      c.loop-event.invariant.sent (OnTrue_at c.if-not-write_whole.false c.write_whole.ensures.whole);
  counted = one_more_counted c.args.events.now c.loop-event.event-index _ c.loop-event-test.true _ _ _ c.loop-event.invariant.counted c.add.ensures;
  faults = OnTrue_at c.if-not-write_whole.false c.write_whole.ensures.quiet ∙ c.loop-event.invariant.faults;
}

pub returns-clause-counted : goal.returns-clause-counted
returns-clause-counted g c =
    subst (λ (l : List MidiEvent). CountsMore l c.args.tally.now.counts c.loop-event.tally.counts)
    (take_all c.loop-event.event-index c.args.events.now c.loop-event-test.false) c.loop-event.invariant.counted
