use Rattle.link_node.proofs.SessionsLemmas.{few_waiting}
use Rattle.link_node.proofs.lasting.few_sessions_wait.Goals as goal

pub returns : goal.returns
returns c m sound = few_waiting m sound.sessions
