use Rattle.ghost_xform.proofs.OffsetLemmas.{offset_of-permutation}
use Rattle.ghost_xform.proofs.laws.order_does_not_matter.Goals as goal

pub returns : goal.returns
returns c = offset_of-permutation
