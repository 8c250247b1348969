use Rattle.std.proofs.Common.{rules, map, FitsSigned, w64}
use Rattle.std.proofs.lemmas.Int.{to_z-of_z}
use Rattle.link_node.specs.Config.{config_value}
use Rattle.link_node.specs.Event.{event_value}
use Rattle.link_commands.proofs.OutletLemmas.{on_failure}
use Rattle.link_live_command.proofs.ReportLemmas.{record_over, record_part_head, record_part_events, where_ok, where_err}
use Rattle.link_live_command.proofs.report_text.hand_record.Goals as goal

pub returns-in_err-hand_head-clause-part : goal.returns-in_err-hand_head-clause-part
returns-in_err-hand_head-clause-part g c =
    let now : FitsSigned w64 c.args.report.now.now = search rules in
    let head = c.in_err-hand_head.ensures.part in
    on_failure c.from_residual.result
    (record_part_head (config_value c.args.report.now.config) c.args.report.now.now (map event_value c.args.report.now.events.items) _ _ _
    (rw (to_z-of_z w64 c.args.report.now.now now) at head))

pub returns-clause-kept : goal.returns-clause-kept
returns-clause-kept g c =
    let now : FitsSigned w64 c.args.report.now.now = search rules in
    let head = c.in_ok-hand_head.ensures.kept in
    let events = c.hand_events.ensures.kept in
    where_ok c.hand_events.result
    (record_over (config_value c.args.report.now.config) c.args.report.now.now (map event_value c.args.report.now.events.items) _ _ _ _ _ _
    (rw (to_z-of_z w64 c.args.report.now.now now) at head))
    (rw c.deref.ensures.value at events)

pub returns-clause-part : goal.returns-clause-part
returns-clause-part g c =
    let now : FitsSigned w64 c.args.report.now.now = search rules in
    let head = c.in_ok-hand_head.ensures.kept in
    let events = c.hand_events.ensures.part in
    where_err c.hand_events.result
    (record_part_events (config_value c.args.report.now.config) c.args.report.now.now (map event_value c.args.report.now.events.items) _ _ _ _ _
    (rw (to_z-of_z w64 c.args.report.now.now now) at head))
    (rw c.deref.ensures.value at events)
