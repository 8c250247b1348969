use Rattle.std.proofs.Common.{◌≡◌, map, take}
use Rattle.arrayvec.specs.ArrayVec.{array_vec_len}
use Rattle.link_node.specs.Config.{gate_value}
use Rattle.link_node.proofs.config.copied_gates.Given as goal

abbrev pub invariant-loop-gate : goal.invariant-loop-gate
invariant-loop-gate l = record {
  gates : map gate_value l.copies.items ≡ map gate_value (take l.gate-index l.gates.items);
  len : array_vec_len l.copies ≡ l.gate-index;
}
