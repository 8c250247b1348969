-- The arrivals that a port in memory is made with.
use Rattle.std.specs.Prelude.{ℕ, ℤ, List, [], ◌∷◌, ◌≤◌, Option, Some, None, IsSome, IfSome, flat_map}
use Rattle.lk_base.specs.Ranges.{IsMoment}
use Rattle.lk_outside.specs.Arrivals.{ArrivalValue, Came, Waited, taken_by}
use Rattle.lk_outside.specs.declared.port.Arrival.{Arrival}
use Rattle.lk_outside.specs.declared.port.Arrival.TheVariants.{Datagram, Idle, Closed, Failed}

-- when a datagram came, or until when nothing did
abbrev pub moment_of : Arrival → Option ℤ
moment_of (Datagram gate from bytes now) = Some now
moment_of (Idle now) = Some now
moment_of Closed = None
moment_of Failed = None

-- a datagram or time alone, at a moment
abbrev pub IsToCome : Arrival → Type 0
IsToCome arrival = IsSome (moment_of arrival) × IfSome (moment_of arrival) IsMoment

-- what some arrivals are as plain data, in order
abbrev pub arrivals_in : List Arrival → List ArrivalValue
arrivals_in arrivals = flat_map taken_by arrivals

-- the first of some arrivals is a datagram on a gate that isn't one of so many
abbrev pub BeginsAstray : ℕ → List ArrivalValue → Type 0
BeginsAstray gates [] = ⊥
BeginsAstray gates (Came gate from bytes now ∷ arrivals) = gates ≤ gate.0
BeginsAstray gates (Waited now ∷ arrivals) = ⊥
