use Rattle.link_node.proofs.SpentLemmas.{step_spent}
use Rattle.link_node.proofs.staying.spent_origins_only_count.Goals as goal

pub returns : goal.returns
returns c = step_spent
