use Rattle.link_live.specs.Report.{report_value}
use Rattle.link_daemon.proofs.ControlLemmas.{was_run}
use Rattle.link_daemon.proofs.control.control_main.Goals as goal

pub returns-in-Ok-read_head-clause-ends : goal.returns-in-Ok-read_head-clause-ends
returns-in-Ok-read_head-clause-ends g c =
    was_run _ _ _ _ _ _ (report_value c.clear.new.self) c.clear-2.new.self.lines.items c.in-Ok.options c.in-Ok-read_head.head
    c.in-Ok.ensures.named c.in-Ok-read_head.ensures.head c.clear.ensures c.clear-2.ensures _ c.run_head.ensures.ends
