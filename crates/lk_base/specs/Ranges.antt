-- The ranges of the numbers that peers share.
use Rattle.std.specs.Prelude.{ℕ, ℤ, pos, ◌^◌, ◌≤◌, ◌≤ℤ◌, unsigned_abs}

-- the magnitude is at most m
abbrev pub IsWithin : ℕ → ℤ → Type 0
IsWithin m z = unsigned_abs z ≤ m

-- Rule: A beat, time or stamp that peers share is at most 2^60 away from 0.
abbrev pub IsWithinLimit : ℤ → Type 0
IsWithinLimit z = IsWithin (2 ^ 60) z

-- Rule: A moment, the host time of an event, is from 0 to 2^55 microseconds.
abbrev pub IsMoment : ℤ → Type 0
IsMoment z = (pos 0 ≤ℤ z) × (z ≤ℤ pos (2 ^ 55))

-- Rule: A quantum, the length in which phases are counted, is from 0 to 2^40 microbeats; 0 means that there is none.
abbrev pub IsQuantum : ℤ → Type 0
IsQuantum z = (pos 0 ≤ℤ z) × (z ≤ℤ pos (2 ^ 40))
