use Rattle.std.proofs.Common.{refl}
use Rattle.lk_base.specs.Rounding.{rounded_of}
use Rattle.timeline_math.proofs.beats.rounded.Goals as goal

pub returns-clause-value : goal.returns-clause-value
unfolding rounded_of
returns-clause-value c = refl
