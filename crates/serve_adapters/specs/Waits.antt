-- What waits for the guests in their seats.
use Rattle.std.specs.Prelude.{ℕ, List, [], Option, None, Some, slice_get}
use Rattle.serve_adapters.specs.Outbox.{waiting_of}
use Rattle.serve_adapters.specs.declared.hall.seat.Seat.{Seat}

abbrev pub waits_for : Option Seat → List ℕ
waits_for (Some seat) = waiting_of seat.outbox
waits_for None = []

-- what waits for the guest in a seat
abbrev pub waits_in : List Seat → ℕ → List ℕ
waits_in seats seat = waits_for (slice_get seats seat)
