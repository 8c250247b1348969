-- Only for proofs: a seat that nobody is in.
use Rattle.std.specs.Prelude.{◌≡◌, pos, false, [], None}
use Rattle.link_clients.specs.declared.seat.Seat.{Seat}

abbrev pub IsUnused : Seat → Type 0
IsUnused seat =
    ((seat.here ≡ false) × (seat.watching ≡ false)) × (seat.line.items ≡ []) × ((seat.told ≡ None) × (seat.told_at ≡ pos 0) × (seat.heard_at ≡ pos 0))
