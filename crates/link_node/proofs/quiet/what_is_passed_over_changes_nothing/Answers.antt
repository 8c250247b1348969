use Rattle.link_node.proofs.QuietLemmas.{step-passed, sends-passed, step-pinged}
use Rattle.link_node.proofs.quiet.what_is_passed_over_changes_nothing.Goals as goal

pub returns-clause-change : goal.returns-clause-change
returns-clause-change c = step-passed

pub returns-clause-sends : goal.returns-clause-sends
returns-clause-sends c = sends-passed

pub returns-clause-ping : goal.returns-clause-ping
returns-clause-ping c = step-pinged
