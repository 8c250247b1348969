use Rattle.link_world.proofs.WorldLemmas.{converges}
use Rattle.link_world.proofs.laws.who_took_all_converges.Goals as goal

pub returns : goal.returns
returns c = converges
