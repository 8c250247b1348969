use Rattle.link_world.proofs.OneLemmas.{one_after}
use Rattle.link_world.proofs.laws.one_world.Goals as goal

pub returns : goal.returns
returns c = one_after
