use Rattle.link_node.proofs.RunLemmas.{machine_after-append, sent_by-append, published_by-append}
use Rattle.link_node.proofs.laws.runs_go_on.Goals as goal

pub returns-clause-machine : goal.returns-clause-machine
returns-clause-machine c = machine_after-append

pub returns-clause-sent : goal.returns-clause-sent
returns-clause-sent c = sent_by-append

pub returns-clause-published : goal.returns-clause-published
returns-clause-published c = published_by-append
