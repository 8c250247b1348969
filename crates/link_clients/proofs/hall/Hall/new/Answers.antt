use Rattle.std.proofs.Common.{false, refl}
use Rattle.link_clients.specs.Unused.{IsUnused}
use Rattle.link_clients.proofs.ComingLemmas.{free_seat}
use Rattle.link_clients.proofs.SeatLemmas.{of_all}
use Rattle.link_clients.proofs.hall.Hall.new.Goals as goal

pub returns : goal.returns
returns c = record {
  free = λ t seat there.
      let unused = of_all IsUnused c.in_ok-free_seats.field-0.items t seat c.in_ok-free_seats.ensures.free there in
      free_seat seat unused.0 unused.1 unused.2;
  last = refl;
  newest = refl;
  sight = λ i. record { gates = c.new.ensures i; full = false };
}
