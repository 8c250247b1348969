use Rattle.link_commands.proofs.OutletLemmas.{hands_whole_part}
use Rattle.link_live_command.proofs.ReportLemmas.{where_err}
use Rattle.link_live_command.proofs.summary.write_report.Goals as goal

pub returns-clause-part : goal.returns-clause-part
returns-clause-part g c =
    let handed = c.in_ok-hand_report.ensures.kept in
    where_err c.flush.result (λ part. hands_whole_part _ _ _ _ _ (rw c.requires.empty at handed) part) c.flush.ensures.part
