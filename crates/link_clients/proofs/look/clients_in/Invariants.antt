use Rattle.std.proofs.Common.{◌≡◌, ◌≤◌, take}
use Rattle.link_clients.specs.Standing.{heres_in}
use Rattle.link_clients.proofs.look.clients_in.Given as goal

abbrev pub invariant-loop-seat : goal.invariant-loop-seat
invariant-loop-seat l = record {
  counted : l.count ≡ heres_in (take l.seat-index l.seats);
  few : l.count ≤ l.seat-index;
}
