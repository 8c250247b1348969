use Rattle.link_node.proofs.BroughtLemmas.{brought_by}
use Rattle.link_node.proofs.laws.timelines_are_brought.Goals as goal

pub returns : goal.returns
returns c = brought_by
