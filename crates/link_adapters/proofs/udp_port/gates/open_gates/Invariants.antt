-- The sockets so far are bound to the first endpoints.
use Rattle.std.proofs.Common.{◌≡◌, ◌≤◌, ◌-◌, ◌++◌, length, drop, vec_capacity, vec_len}
use Rattle.link_adapters.specs.Sockets.{locals_of}
use Rattle.link_adapters.proofs.udp_port.gates.open_gates.Given as goal

abbrev pub invariant-loop-at : goal.invariant-loop-at
invariant-loop-at g l = record {
  bound : locals_of l.gates.items ++ drop l.at l.locals ≡ l.locals;
  within : l.at ≤ length l.locals;
  count : vec_len l.gates ≡ l.at;
  capacity : vec_capacity l.gates ≡ vec_capacity l.initial.gates;
}

abbrev pub decreases-loop-at : goal.decreases-loop-at
decreases-loop-at g l = length l.locals - l.at
