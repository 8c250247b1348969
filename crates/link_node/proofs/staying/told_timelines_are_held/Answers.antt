use Rattle.std.proofs.Common.{ap}
use Rattle.link_node.proofs.HeldLemmas.{told-stays, told-current, told-taken, told-held}
use Rattle.link_node.proofs.staying.told_timelines_are_held.Goals as goal

pub returns-clause-stays : goal.returns-clause-stays
returns-clause-stays c = λ m e msg hears same. (told-stays m e msg hears same, ap (λ t. t.session) (told-current m e msg hears same))

pub returns-clause-taken : goal.returns-clause-taken
returns-clause-taken c = told-taken

pub returns-clause-held : goal.returns-clause-held
returns-clause-held c = told-held c.one_best.ensures.there
