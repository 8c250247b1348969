-- What a pace answers.
use Rattle.std.specs.Prelude.{◌≡◌, ℤ, pos, ◌+ℤ◌, ◌^◌, Option, IfSome}
use Rattle.std.specs.Int.{int_min}
use Rattle.lk_base.specs.Ranges.{IsMoment}

-- Rule: A pace that tells its lateness answers the moment asked for plus that, and at most 2^55.
pub record IsPaced (late : Option ℤ) (moment answer : ℤ) : Type 0 where
  pub range : IsMoment answer
  pub lateness : IfSome late IsMoment
  pub told : IfSome late (λ d. answer ≡ int_min (moment +ℤ d) (pos (2 ^ 55)))
