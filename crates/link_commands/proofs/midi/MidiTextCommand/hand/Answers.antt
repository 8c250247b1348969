use Rattle.std.proofs.Common.{◌∙◌, refl, arith}
use Rattle.std.proofs.lemmas.Int.{ints}
use Rattle.link_commands.proofs.MidiLemmas.{block_messages, played_none, played_says, next_played, played_more, played_part, played_over, played_cut}
use Rattle.link_commands.proofs.OutletLemmas.{on_failure}
use Rattle.link_commands.proofs.midi.MidiTextCommand.hand.Goals as goal

pub loop-blocks-init : goal.loop-blocks-init
loop-blocks-init g c =
    let is = c.requires.ready.0 in
    record {
      played = played_none c.scripts_fit_nodes.ensures.few c.args.params.now.length c.args.params.now.blocks _ _ _ _ _ c.args.text.now _ _ c.new-clock.result _ _
          is (omega (arith, ints, c.requires.ready.1)) c.requires.short c.new-clock.ensures;
      quiet = refl;
      low = omega (arith, ints, c.requires.ready.1, is.script.head.moment.0);
      high = omega (arith, ints, c.requires.ready.1, is.script.head.moment.1);
      few = omega arith;
    }

pub take_due-requires : goal.take_due-requires
take_due-requires g c = played_says _ _ _ _ _ _ c.args.text.now c.loop-blocks.at _ _ _ _ _ _ _ _ c.loop-blocks.invariant.played

pub block_into-requires-clause-before : goal.block_into-requires-clause-before
block_into-requires-clause-before g c =
    omega (arith, ints, c.loop-blocks.invariant.low, c.loop-blocks.invariant.high, c.loop-blocks-test.true, c.args.params.now.few)

pub block_into-requires-clause-end : goal.block_into-requires-clause-end
block_into-requires-clause-end g c =
    omega (arith, ints, c.loop-blocks.invariant.low, c.loop-blocks.invariant.high, c.loop-blocks-test.true, c.args.params.now.few, c.args.params.now.short)

pub hand_midi_events-requires : goal.hand_midi_events-requires
hand_midi_events-requires g c =
    rw c.as_slice.ensures.value (block_messages c.positions_are_short.ensures c.state-state.result c.loop-blocks.clock _ _ _ c.block_into.ensures.events)

pub returns-in_err-hand_midi_events-clause-part : goal.returns-in_err-hand_midi_events-clause-part
returns-in_err-hand_midi_events-clause-part g c =
    on_failure c.from_residual.result
    (played_part _ _ _ _ _ _ c.args.text.now c.take_due.new.at _ _ _ _ _ _ _ _ _ _
    (next_played c.runs_go_on.ensures.machine _ _ _ _ _ _ _ _ _ _ c.args.text.now c.loop-blocks.at c.take_due.new.at _ _ _ c.loop-blocks.clock _ _ _ _ _ c.state-state.result _ _ _
    c.loop-blocks.invariant.played c.take_due.ensures c.state-state.ensures.value c.block_into.ensures.events c.block_into.ensures.runs c.loop-blocks-test.true (omega (arith, ints)) (omega (arith, ints)))
    (rw c.as_slice.ensures.value at c.in_err-hand_midi_events.ensures.part))

pub overflow_add-events : goal.overflow_add-events
overflow_add-events g c = omega (arith, c.loop-blocks.invariant.few, c.len.ensures.fits, c.loop-blocks-test.true, c.args.params.now.few)

pub overflow_add-start : goal.overflow_add-start
overflow_add-start g c =
    omega (arith, ints, c.loop-blocks.invariant.low, c.loop-blocks.invariant.high, c.loop-blocks-test.true, c.args.params.now.few, c.args.params.now.short)

pub loop-blocks-preserved : goal.loop-blocks-preserved
loop-blocks-preserved g c = record {
  played = played_more _ _ _ _ _ _ c.args.text.now c.take_due.new.at _ _ _ _ _ _ _ _ _ _ _ _ _
      (next_played c.runs_go_on.ensures.machine _ _ _ _ _ _ _ _ _ _ c.args.text.now c.loop-blocks.at c.take_due.new.at _ _ _ c.loop-blocks.clock _ _ _ _ _ c.state-state.result _ _ _
      c.loop-blocks.invariant.played c.take_due.ensures c.state-state.ensures.value c.block_into.ensures.events c.block_into.ensures.runs c.loop-blocks-test.true (omega (arith, ints)) (omega (arith, ints)))
      (rw c.as_slice.ensures.value at c.in_ok-hand_midi_events.ensures.kept) (omega (arith, ints)) (omega (arith, c.len.ensures.value));
  quiet = c.in_ok-hand_midi_events.ensures.quiet ∙ c.loop-blocks.invariant.quiet;
  low = omega (arith, ints, c.loop-blocks.invariant.low);
  high = omega (arith, ints, c.loop-blocks.invariant.high, c.args.params.now.short);
  few = omega (arith, c.loop-blocks.invariant.few, c.len.ensures.fits);
}

pub returns-clause-kept : goal.returns-clause-kept
returns-clause-kept g c =
    played_over c.hand_blocks_done.result _ _ _ _ _ _ c.args.text.now c.loop-blocks.at _ _ _ _ _ _ _ _ _ _
    c.loop-blocks.invariant.played (omega (arith, c.loop-blocks-test.false)) c.hand_blocks_done.ensures.kept

pub returns-clause-part : goal.returns-clause-part
returns-clause-part g c =
    played_cut c.hand_blocks_done.result _ _ _ _ _ _ c.args.text.now c.loop-blocks.at _ _ _ _ _ _ _ _ _
    c.loop-blocks.invariant.played (omega (arith, c.loop-blocks-test.false)) c.hand_blocks_done.ensures.part
