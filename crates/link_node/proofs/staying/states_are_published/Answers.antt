use Rattle.link_node.proofs.StayingLemmas.{same_published, new_published, last_published}
use Rattle.link_node.proofs.staying.states_are_published.Goals as goal

pub returns-clause-same : goal.returns-clause-same
returns-clause-same c = same_published

pub returns-clause-new : goal.returns-clause-new
returns-clause-new c = new_published

pub returns-clause-last : goal.returns-clause-last
returns-clause-last c = last_published
