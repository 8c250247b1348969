use Rattle.link_node.proofs.StayingLemmas.{founds, alone_goes_on, among_goes_on}
use Rattle.link_node.proofs.staying.who_is_left_founds.Goals as goal

pub returns-clause-founds : goal.returns-clause-founds
returns-clause-founds c = founds

pub returns-clause-alone : goal.returns-clause-alone
returns-clause-alone c = alone_goes_on

pub returns-clause-among : goal.returns-clause-among
returns-clause-among c = among_goes_on
