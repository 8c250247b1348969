use Rattle.link_node.proofs.ToldLemmas.{all_told}
use Rattle.link_node.proofs.laws.best_timelines_are_told.Goals as goal

pub returns-clause-told : goal.returns-clause-told
returns-clause-told c = all_told

pub returns-clause-best : goal.returns-clause-best
returns-clause-best c = λ m. c.one_best.ensures.there m.sessions.current.first m.sessions.current.later
