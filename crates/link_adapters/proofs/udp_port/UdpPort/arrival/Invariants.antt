-- A wait changes nothing that is told.
use Rattle.std.proofs.Common.{◌≡◌}
use Rattle.link_adapters.proofs.udp_port.UdpPort.arrival.Given as goal

abbrev pub invariant-loop : goal.invariant-loop
invariant-loop g l = record {
  goes : (goal.iterator-loop g).can_next l.iterator' × (goal.iterator-loop g).is_finite l.iterator';
  gates : l.self.gates ≡ l.initial.self.gates;
  first : l.self.first ≡ l.initial.self.first;
  faults : l.self.faults ≡ l.initial.self.faults;
}
