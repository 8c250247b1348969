use Rattle.link_node.proofs.MeasuredLemmas.{step-gives}
use Rattle.link_node.proofs.staying.offsets_are_measured.Goals as goal

pub returns : goal.returns
returns c = step-gives
