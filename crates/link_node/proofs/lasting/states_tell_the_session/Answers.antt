use Rattle.link_node.proofs.DueLemmas.{states_tell}
use Rattle.link_node.proofs.lasting.states_tell_the_session.Goals as goal

pub returns-clause-session : goal.returns-clause-session
returns-clause-session c m sound = (states_tell m sound).session

pub returns-clause-quantum : goal.returns-clause-quantum
returns-clause-quantum c m sound = (states_tell m sound).quantum
