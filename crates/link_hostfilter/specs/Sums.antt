-- The sums that a filter keeps beside its pairs.
use Rattle.std.specs.Prelude.{◌≡◌, ℤ, ◌*ℤ◌, ◌^◌, List}
use Rattle.lk_base.specs.Ranges.{IsWithin}
use Rattle.link_hostfilter.specs.Totals.{total}
use Rattle.link_hostfilter.specs.declared.pair.Pair.{Pair}
use Rattle.link_hostfilter.specs.declared.sums.Sums.{Sums}

abbrev pub sample_of : Pair → ℤ
sample_of pair = pair.sample

abbrev pub host_of : Pair → ℤ
host_of pair = pair.host

unfoldable pub square_of : Pair → ℤ
square_of pair = pair.sample *ℤ pair.sample

unfoldable pub product_of : Pair → ℤ
product_of pair = pair.sample *ℤ pair.host

-- Rule: The filter's sums are those of the pairs kept, seen from the oldest.
pub record AreSums (pairs : List Pair) (sums : Sums) : Type 0 where
  pub samples : sums.samples ≡ total sample_of pairs
  pub hosts : sums.hosts ≡ total host_of pairs
  pub squares : sums.squares ≡ total square_of pairs
  pub products : sums.products ≡ total product_of pairs

-- bounds within which the sums of 512 pairs stay
pub record AreBounded (sums : Sums) : Type 0 where
  pub samples : IsWithin (2 ^ 41) sums.samples
  pub hosts : IsWithin (2 ^ 41) sums.hosts
  pub squares : IsWithin (2 ^ 72) sums.squares
  pub products : IsWithin (2 ^ 72) sums.products
