use Rattle.std.proofs.Common.{◌∙◌, arith}
use Rattle.std.proofs.lemmas.List.Folds.{flat_map-map}
use Rattle.link_node.specs.Event.{event_value}
use Rattle.link_script.specs.ReplayScript.{ended, event_line}
use Rattle.link_commands.proofs.OutletLemmas.{on_failure}
use Rattle.link_commands.proofs.ReplayLemmas.{each_next, each_part, each_whole}
use Rattle.link_live_command.proofs.report_text.hand_events.Goals as goal

pub loop-event-preserved : goal.loop-event-preserved
loop-event-preserved g c = (
  each_next (λ e. ended (event_line (event_value e))) c.args.events.now c.loop-event.event-index c.event-item.result _ _ _ _ _ _ c.loop-event-test.true c.event-item.is c.loop-event.invariant.0 c.in_ok-hand_event.ensures.kept,
  c.in_ok-hand_event.ensures.quiet ∙ c.loop-event.invariant.1,
)

pub returns-in_err-hand_event-clause-part : goal.returns-in_err-hand_event-clause-part
returns-in_err-hand_event-clause-part g c =
    on_failure c.from_residual.result
    (rw (flat_map-map (λ e. ended (event_line e)) event_value c.args.events.now)
    (each_part (λ e. ended (event_line (event_value e))) c.args.events.now c.loop-event.event-index c.event-item.result _ _ _ _ _ c.loop-event-test.true c.event-item.is c.loop-event.invariant.0 c.in_err-hand_event.ensures.part))

pub returns-clause-kept : goal.returns-clause-kept
returns-clause-kept g c =
    rw (flat_map-map (λ e. ended (event_line e)) event_value c.args.events.now)
    (each_whole (λ e. ended (event_line (event_value e))) c.args.events.now c.loop-event.event-index _ _ _ _ (omega arith) c.loop-event.invariant.0)
