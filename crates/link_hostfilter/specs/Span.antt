-- Between which host times pairs lie.
use Rattle.std.specs.Prelude.{◌≤ℤ◌, List, [], ◌∷◌}
use Rattle.link_hostfilter.specs.declared.pair.Pair.{Pair}
use Rattle.link_hostfilter.specs.declared.span.Span.{Span}

-- no host time is below the span or above it
unfoldable pub AreAmong : Span → List Pair → Type 0
AreAmong span [] = Unit {0}
AreAmong span (pair ∷ pairs) = (span.low ≤ℤ pair.host) × (pair.host ≤ℤ span.high) × AreAmong span pairs
