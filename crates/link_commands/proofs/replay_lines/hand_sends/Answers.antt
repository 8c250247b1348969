use Rattle.std.proofs.Common.{◌∙◌, arith}
use Rattle.std.proofs.lemmas.List.Folds.{flat_map-map}
use Rattle.link_node.specs.Event.{event_value, moment_of, sending_value}
use Rattle.link_text.specs.ReplayText.{sending_line_of}
use Rattle.link_commands.proofs.OutletLemmas.{on_failure}
use Rattle.link_commands.proofs.ReplayLemmas.{each_next, each_part, each_whole}
use Rattle.link_commands.proofs.replay_lines.hand_sends.Goals as goal

pub loop-sending-preserved : goal.loop-sending-preserved
loop-sending-preserved g c = (
  each_next (λ s. sending_line_of (moment_of (event_value c.args.event.now)) (sending_value s)) c.args.sends.now c.loop-sending.sending-index c.sending-item.result _ _ _ _ _ _ c.loop-sending-test.true c.sending-item.is c.loop-sending.invariant.0 c.in_ok-hand_sending.ensures.kept,
  c.in_ok-hand_sending.ensures.quiet ∙ c.loop-sending.invariant.1,
)

pub returns-in_err-hand_sending-clause-part : goal.returns-in_err-hand_sending-clause-part
returns-in_err-hand_sending-clause-part g c =
    on_failure c.from_residual.result
    (rw (flat_map-map (sending_line_of (moment_of (event_value c.args.event.now))) sending_value c.args.sends.now)
    (each_part (λ s. sending_line_of (moment_of (event_value c.args.event.now)) (sending_value s)) c.args.sends.now c.loop-sending.sending-index c.sending-item.result _ _ _ _ _ c.loop-sending-test.true c.sending-item.is c.loop-sending.invariant.0 c.in_err-hand_sending.ensures.part))

pub returns-clause-kept : goal.returns-clause-kept
returns-clause-kept g c =
    rw (flat_map-map (sending_line_of (moment_of (event_value c.args.event.now))) sending_value c.args.sends.now)
    (each_whole (λ s. sending_line_of (moment_of (event_value c.args.event.now)) (sending_value s)) c.args.sends.now c.loop-sending.sending-index _ _ _ _ (omega arith) c.loop-sending.invariant.0)
