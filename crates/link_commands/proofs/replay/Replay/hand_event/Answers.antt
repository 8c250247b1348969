use Rattle.std.proofs.Common.{map}
use Rattle.link_node.specs.Event.{event_value, sending_value}
use Rattle.link_node.specs.Runs.{shown_by}
use Rattle.link_node.specs.Step.{step_of}
use Rattle.link_commands.proofs.OutletLemmas.{on_failure}
use Rattle.link_commands.proofs.ReplayLemmas.{event_over, event_part_first, event_part_last, sent_in, shown_in}
use Rattle.link_commands.proofs.replay.Replay.hand_event.Goals as goal

pub returns-in_err-hand_sends-clause-part : goal.returns-in_err-hand_sends-clause-part
returns-in_err-hand_sends-clause-part g c =
    on_failure c.from_residual.result (λ m stands.
    event_part_first c.args.self.now.version m c.args.counts.now.states (event_value c.args.event.now) (map sending_value c.list-sends.result.now) _ _ _
    (sent_in m (event_value c.args.event.now) _ _ _ c.list-sends.ensures c.clear.ensures (c.step-change.ensures.sends m stands))
    c.in_err-hand_sends.ensures.part)

pub returns-in_err-shown-clause-part : goal.returns-in_err-shown-clause-part
returns-in_err-shown-clause-part g c =
    on_failure c.from_residual-in_err-shown.result (λ m stands.
    event_part_last c.args.self.now.version m c.args.counts.now.states (event_value c.args.event.now) (map sending_value c.list-sends.result.now) (shown_by c.step-change.result c.state.result) _ _ _ _ _
    (sent_in m (event_value c.args.event.now) _ _ _ c.list-sends.ensures c.clear.ensures (c.step-change.ensures.sends m stands))
    (shown_in m (event_value c.args.event.now) c.step-change.result c.state.result (c.step-change.ensures.change m stands)
    (c.state.ensures.value (step_of m (event_value c.args.event.now)) (c.step-change.ensures.stands m stands)))
    c.in_ok-hand_sends.ensures.kept c.in_err-shown.ensures.part)

pub returns-clause-kept : goal.returns-clause-kept
returns-clause-kept g c m stands =
    event_over c.args.self.now.version m c.args.counts.now.states (event_value c.args.event.now) (map sending_value c.list-sends.result.now) (shown_by c.step-change.result c.state.result) _ _ _ _ _ _
    (sent_in m (event_value c.args.event.now) _ _ _ c.list-sends.ensures c.clear.ensures (c.step-change.ensures.sends m stands))
    (shown_in m (event_value c.args.event.now) c.step-change.result c.state.result (c.step-change.ensures.change m stands)
    (c.state.ensures.value (step_of m (event_value c.args.event.now)) (c.step-change.ensures.stands m stands)))
    c.in_ok-hand_sends.ensures.kept c.in_ok-shown.ensures.kept
