use Rattle.session_server.proofs.WordLemmas.{is_sole}
use Rattle.session_server.proofs.parts.sole.Goals as goal

pub returns-in-None-clause-few : goal.returns-in-None-clause-few
returns-in-None-clause-few c = is_sole _ _ c.in-Some.ensures.some c.in-None.ensures.none
