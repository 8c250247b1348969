use Rattle.link_node.proofs.LatestLemmas.{step-latest, step-client, step-image}
use Rattle.link_node.proofs.beginning.later_starts_are_taken.Goals as goal

pub returns-clause-session : goal.returns-clause-session
returns-clause-session c = step-latest

pub returns-clause-client : goal.returns-clause-client
returns-clause-client c = step-client

pub returns-clause-commit : goal.returns-clause-commit
returns-clause-commit c = step-image
