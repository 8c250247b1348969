-- How long clients may be served.
use Rattle.std.specs.Prelude.{◌*◌, ℤ, pos, ◌≤ℤ◌, Option, IfSome}

-- a span is from 1 microsecond to 8,760 hours; where there is none it has no end
abbrev pub IsSpan : Option ℤ → Type 0
IsSpan lasts = IfSome lasts (λ span. (pos 1 ≤ℤ span) × (span ≤ℤ pos (8_760_000_000 * 3_600)))
