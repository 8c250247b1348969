use Rattle.std.proofs.Common.{refl}
use Rattle.link_commands.proofs.OutletLemmas.{on_failure}
use Rattle.link_live_command.proofs.ReportLemmas.{last_over, last_part_mark, last_part_state, where_ok, where_err}
use Rattle.link_live_command.proofs.report_text.hand_last_state.Goals as goal

pub returns-in_err-put_line-clause-part : goal.returns-in_err-put_line-clause-part
returns-in_err-put_line-clause-part g c =
    on_failure c.from_residual.result
    (last_part_mark c.args.published.now c.in-Some.state.now _ _ _ c.in-Some.ensures.value c.in_err-put_line.ensures.part)

pub returns-clause-kept : goal.returns-clause-kept
returns-clause-kept g c =
    where_ok c.hand_state.result
    (last_over c.args.published.now _ c.in-Some.state.now _ _ _ _ _ _ c.in-Some.ensures.value refl c.in_ok-put_line.ensures.kept)
    c.hand_state.ensures.kept

pub returns-clause-part : goal.returns-clause-part
returns-clause-part g c =
    where_err c.hand_state.result
    (last_part_state c.args.published.now _ c.in-Some.state.now _ _ _ _ _ c.in-Some.ensures.value refl c.in_ok-put_line.ensures.kept)
    c.hand_state.ensures.part
