use Rattle.std.proofs.Common.{refl, arith}
use Rattle.lk_base.specs.Ids.{source_after}
use Rattle.link_text.specs.Load.{load_moment_after}
use Rattle.link_text.proofs.load.LoadEvents.new.Goals as goal

pub invariant_of-result : goal.invariant_of-result
unfolding source_after load_moment_after
invariant_of-result c = (c.new.ensures, refl, omega arith)
