-- What comes to a port and what is posted there, as plain data.
use Rattle.std.specs.Prelude.{ℕ, ℤ, List, [], ◌∷◌, ◌<◌}
use Rattle.lk_base.specs.Ranges.{IsMoment}
use Rattle.lk_base.specs.declared.endpoint.Endpoint.{Endpoint}
use Rattle.lk_base.specs.declared.endpoint.Gate.{Gate}
use Rattle.lk_outside.specs.declared.port.Arrival.{Arrival}
use Rattle.lk_outside.specs.declared.port.Arrival.TheVariants.{Datagram, Idle, Closed, Failed}

-- a datagram, or time alone; each with its moment
pub data ArrivalValue : Type 0 where
  Came : (gate : Gate) → (from : Endpoint) → (bytes : List ℕ) → (now : ℤ) → ArrivalValue
  Waited : (now : ℤ) → ArrivalValue

-- a datagram that was posted on a gate
pub record PostValue : Type 0 where
  pub gate : Gate
  pub to : Endpoint
  pub bytes : List ℕ

-- the arrival that an answer takes, if it takes one
abbrev pub taken_by : Arrival → List ArrivalValue
taken_by (Datagram gate from bytes now) = Came gate from bytes.items now ∷ []
taken_by (Idle now) = Waited now ∷ []
taken_by Closed = []
taken_by Failed = []

-- the moment of an arrival
abbrev pub arrived_at : ArrivalValue → ℤ
arrived_at (Came gate from bytes now) = now
arrived_at (Waited now) = now

-- Rule: A receive answers a datagram on a bound gate, or time alone, each with a moment; or that nothing comes any more, or that it failed.
abbrev pub IsAnswer : ℕ → Arrival → Type 0
IsAnswer gates (Datagram gate from bytes now) = (gate.0 < gates) × IsMoment now
IsAnswer gates (Idle now) = IsMoment now
IsAnswer gates Closed = Unit {0}
IsAnswer gates Failed = Unit {0}
