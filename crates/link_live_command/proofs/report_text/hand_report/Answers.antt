use Rattle.std.proofs.Common.{subst, sym, Bool}
use Rattle.link_commands.specs.Outlet.{HandsOver, HandsPart}
use Rattle.link_live.specs.Report.{report_value}
use Rattle.link_live_command.specs.ReportText.{live_text_of}
use Rattle.link_commands.proofs.OutletLemmas.{on_failure}
use Rattle.link_live_command.proofs.ReportLemmas.{live_over, recorded_over, live_part_counts, live_part_state, live_part_record, where_ok, where_err}
use Rattle.link_live_command.proofs.report_text.hand_report.Goals as goal

pub returns-in_err-hand_counts-clause-part : goal.returns-in_err-hand_counts-clause-part
returns-in_err-hand_counts-clause-part g c =
    on_failure c.from_residual.result
    (live_part_counts (report_value c.args.report.now) c.args.recorded _ _ _ c.in_err-hand_counts.ensures.part)

pub returns-in_err-hand_last_state-clause-part : goal.returns-in_err-hand_last_state-clause-part
returns-in_err-hand_last_state-clause-part g c =
    let state = c.in_err-hand_last_state.ensures.part in
    on_failure c.from_residual-in_err-hand_last_state.result
    (live_part_state (report_value c.args.report.now) c.args.recorded _ _ _ _ _ c.in_ok-hand_counts.ensures.kept (rw c.deref.ensures.value at state))

pub returns-then-not-recorded-clause-kept : goal.returns-then-not-recorded-clause-kept
returns-then-not-recorded-clause-kept g c =
    let state = c.in_ok-hand_last_state.ensures.kept in
    subst (λ (recorded : Bool). HandsOver (live_text_of (report_value c.args.report.now) recorded) (g.K.Sink.seen c.args.out.now).told c.args.outlet.now.kept.items (g.K.Sink.seen c.hand_last_state.new.out).told c.hand_last_state.new.outlet.kept.items)
    (sym c.if-not-recorded.true)
    (live_over (report_value c.args.report.now) _ _ _ _ _ _ c.in_ok-hand_counts.ensures.kept (rw c.deref.ensures.value at state))

pub returns-clause-kept : goal.returns-clause-kept
returns-clause-kept g c =
    let state = c.in_ok-hand_last_state.ensures.kept in
    where_ok c.hand_record.result
    (λ record_is. subst (λ (recorded : Bool). HandsOver (live_text_of (report_value c.args.report.now) recorded) (g.K.Sink.seen c.args.out.now).told c.args.outlet.now.kept.items (g.K.Sink.seen c.hand_record.new.out).told c.hand_record.new.outlet.kept.items)
    (sym c.if-not-recorded.false)
    (recorded_over (report_value c.args.report.now) _ _ _ _ _ _ _ _ c.in_ok-hand_counts.ensures.kept (rw c.deref.ensures.value at state) record_is))
    c.hand_record.ensures.kept

pub returns-clause-part : goal.returns-clause-part
returns-clause-part g c =
    let state = c.in_ok-hand_last_state.ensures.kept in
    where_err c.hand_record.result
    (λ part. subst (λ (recorded : Bool). HandsPart (live_text_of (report_value c.args.report.now) recorded) (g.K.Sink.seen c.args.out.now).told c.args.outlet.now.kept.items (g.K.Sink.seen c.hand_record.new.out).told)
    (sym c.if-not-recorded.false)
    (live_part_record (report_value c.args.report.now) _ _ _ _ _ _ _ c.in_ok-hand_counts.ensures.kept (rw c.deref.ensures.value at state) part))
    c.hand_record.ensures.part
