use Rattle.link_node.proofs.StartingLemmas.{starts-from}
use Rattle.link_node.proofs.staying.starts_are_brought.Goals as goal

pub returns : goal.returns
returns c = starts-from
