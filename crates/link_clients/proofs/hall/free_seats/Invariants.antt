use Rattle.std.proofs.Common.{◌≡◌, ◌≤◌, All, vec_capacity, vec_len}
use Rattle.link_clients.specs.Unused.{IsUnused}
use Rattle.link_clients.proofs.hall.free_seats.Given as goal

abbrev pub invariant-loop : goal.invariant-loop
invariant-loop l = record {
  count : vec_len l.seats ≡ l.counter;
  room : 15 ≤ vec_capacity l.seats;
  free : All IsUnused l.seats.items;
}
