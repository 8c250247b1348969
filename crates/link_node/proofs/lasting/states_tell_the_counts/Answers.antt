use Rattle.link_node.proofs.DueLemmas.{states_tell}
use Rattle.link_node.proofs.lasting.states_tell_the_counts.Goals as goal

pub returns-clause-peers : goal.returns-clause-peers
returns-clause-peers c m sound = (states_tell m sound).peers

pub returns-clause-app : goal.returns-clause-app
returns-clause-app c m sound = (states_tell m sound).app

pub returns-clause-audio : goal.returns-clause-audio
returns-clause-audio c m sound = (states_tell m sound).audio
