-- The list of failing calls: a kind of call, and the number of one call of that kind, from 1.
use Rattle.std.specs.Prelude.{ℕ, List, Contains}

-- Rule: An object in memory fails exactly at the calls of its list.
abbrev pub FailsAt : List (ℕ × ℕ) → ℕ → ℕ → Type 0
FailsAt failing kind call = Contains failing (kind, call)
