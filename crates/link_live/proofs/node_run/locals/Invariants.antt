use Rattle.std.proofs.Common.{◌≡◌, map, take}
use Rattle.arrayvec.specs.ArrayVec.{array_vec_len}
use Rattle.link_node.specs.Config.{GateValue, gate_value}
use Rattle.link_live.proofs.node_run.locals.Given as goal

abbrev pub invariant-loop-gate : goal.invariant-loop-gate
invariant-loop-gate l = record {
  locals : l.locals.items ≡ map (λ (gate : GateValue). gate.local) (map gate_value (take l.gate-index l.gates.items));
  len : array_vec_len l.locals ≡ l.gate-index;
}
