use Rattle.link_live.specs.Report.{report_value}
use Rattle.link_live_command.proofs.LiveLemmas.{was_run}
use Rattle.link_live_command.proofs.live.live_main.Goals as goal

pub returns-in-Ok-read_script-clause-ends : goal.returns-in-Ok-read_script-clause-ends
returns-in-Ok-read_script-clause-ends g c =
    was_run _ _ _ _ _ _ (report_value c.clear.new.self) c.in-Ok.options c.in-Ok-read_script.script _
    c.in-Ok.ensures.named c.in-Ok-read_script.ensures.script c.clear.ensures c.run_script.ensures.ends
