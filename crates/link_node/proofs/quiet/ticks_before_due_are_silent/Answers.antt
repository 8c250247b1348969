use Rattle.link_node.proofs.QuietLemmas.{silent_before_due, same_before_due}
use Rattle.link_node.proofs.quiet.ticks_before_due_are_silent.Goals as goal

pub returns-clause-sends : goal.returns-clause-sends
returns-clause-sends c = silent_before_due

pub returns-clause-change : goal.returns-clause-change
returns-clause-change c = same_before_due
