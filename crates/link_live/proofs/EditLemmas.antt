-- Moments are within the limit.
use Rattle.std.proofs.Common.{ℤ, arith}
use Rattle.std.proofs.lemmas.Int.{ints}
use Rattle.lk_base.specs.Ranges.{IsMoment, IsWithinLimit}

pub moment_within : (n : ℤ) → IsMoment n → IsWithinLimit n
moment_within n m = omega (arith, ints, m.0, m.1)
