use Rattle.link_node.proofs.FoundingLemmas.{step-goes}
use Rattle.link_node.proofs.beginning.founded_sessions_go_on.Goals as goal

pub returns : goal.returns
returns c = step-goes
