use Rattle.link_world.proofs.WorldLemmas.{agrees}
use Rattle.link_world.proofs.laws.the_same_agree.Goals as goal

pub returns : goal.returns
returns c = agrees c.best_timelines_are_told.ensures.best
