use Rattle.std.proofs.Common.{refl}
use Rattle.lk_base.specs.Rounding.{rounded_of}
use Rattle.lk_base.proofs.rounding.rounded.Goals as goal

pub returns-then-n-clause-value : goal.returns-then-n-clause-value
unfolding rounded_of
returns-then-n-clause-value c = refl

pub returns-else-n-clause-value : goal.returns-else-n-clause-value
unfolding rounded_of
returns-else-n-clause-value c = refl
