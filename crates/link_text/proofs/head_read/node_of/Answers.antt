use Rattle.link_text.proofs.HeadLemmas.{some_node, none_node}
use Rattle.link_text.proofs.head_read.node_of.Goals as goal

pub returns-clause-some : goal.returns-clause-some
returns-clause-some c = some_node c.args.line.now c.node_in.result c.node_in.ensures.some

pub returns-clause-none : goal.returns-clause-none
returns-clause-none c = none_node c.args.line.now c.node_in.result c.node_in.ensures.none
