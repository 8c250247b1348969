use Rattle.link_node.proofs.FoundingLemmas.{step-joins}
use Rattle.link_node.proofs.beginning.joined_sessions_have_no_start.Goals as goal

pub returns-clause-starts : goal.returns-clause-starts
returns-clause-starts c = λ m e same left. (step-joins m e same left).0

pub returns-clause-remeasured : goal.returns-clause-remeasured
returns-clause-remeasured c = λ m e same left. (step-joins m e same left).1
