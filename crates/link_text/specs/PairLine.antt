-- A line of two signed numbers.
use Rattle.std.specs.Prelude.{◌≡◌, ℕ, ℤ, List, [], ◌∷◌}
use Rattle.std.specs.Fmt.{signed_decimal}
use Rattle.lk_base.specs.Ranges.{IsWithinLimit}
use Rattle.link_lines.specs.Words.{joined}

-- Rule: A line for `filter` is a sample count and a host time, two signed numbers parted by one space.
-- the line says these two numbers, each within the limit, and nothing else
pub record IsPairLine (line : List ℕ) (first second : ℤ) : Type 0 where
  pub first_within : IsWithinLimit first
  pub second_within : IsWithinLimit second
  pub said : line ≡ joined (signed_decimal first ∷ signed_decimal second ∷ [])
