-- What is sought among the steps of talks in memory.
use Rattle.std.specs.Prelude.{◌≡◌, ◌<◌, ◌≤◌, ℕ, ◌+◌, ◌-◌, ◌^◌, true, false, List, [], ◌++◌, drop, take, length, Option, None, Some}
use Rattle.lk_talks.specs.Steps.{comes_in, goes_in, sent_in}
use Rattle.lk_talks.specs.declared.list_talks.sought.Sought.{Sought}
use Rattle.lk_talks.specs.declared.list_talks.sought.Sought.TheVariants as sought
use Rattle.lk_talks.specs.declared.step.Step.{Step}

-- the bytes that the client in a seat sends from a step on, without so many
abbrev pub left_in : List Step → ℕ → ℕ → ℕ → List ℕ
left_in steps seat from given = drop given (sent_in seat (drop from steps))

-- what the client did next: it sent a piece, which is the front of all that it sent and what is left from a place on; or it went, and
-- nothing is left; or neither
abbrev pub IsSought : List Step → ℕ → ℕ → ℕ → Sought → Type 0
IsSought steps seat from given (sought.Piece at heard piece) =
    (0 < length piece.now) × (heard + length piece.now ≤ 2 ^ 64 - 1)
    × (left_in steps seat from given ≡ left_in steps seat at heard)
    × ((n : ℕ) → n ≤ length piece.now → left_in steps seat at heard ≡ take n piece.now ++ left_in steps seat at (heard + n))
IsSought steps seat from given (sought.Goes at) =
    (at < length steps) × (left_in steps seat from given ≡ []) × (goes_in seat (drop from steps) ≡ true)
IsSought steps seat from given sought.Nothing = (left_in steps seat from given ≡ []) × (goes_in seat (drop from steps) ≡ false)

abbrev pub IsGoer : List Step → ℕ → ℕ → Option ℕ → Type 0
IsGoer steps seat from (Some at) = (at < length steps) × (goes_in seat (drop from steps) ≡ true)
IsGoer steps seat from None = goes_in seat (drop from steps) ≡ false

abbrev pub IsComer : List Step → ℕ → Option ℕ → Type 0
IsComer steps from (Some at) = (at < length steps) × (comes_in (drop from steps) ≡ true)
IsComer steps from None = comes_in (drop from steps) ≡ false
