use Rattle.link_node.proofs.DueLemmas.{tick_leaves_nothing_due}
use Rattle.link_node.proofs.lasting.a_tick_leaves_nothing_due.Goals as goal

pub returns : goal.returns
returns c m now sound moment = tick_leaves_nothing_due m now sound
