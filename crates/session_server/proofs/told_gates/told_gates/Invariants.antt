use Rattle.std.proofs.Common.{◌≡◌, ◌≤◌, ◌-◌, length, map, take}
use Rattle.arrayvec.specs.ArrayVec.{array_vec_len}
use Rattle.session_server.specs.Gates.{told_gate_of}
use Rattle.session_server.proofs.told_gates.told_gates.Given as goal

abbrev pub invariant-loop-state : goal.invariant-loop-state
invariant-loop-state l =
    (l.gates.items ≡ map (told_gate_of l.state) (take (length l.gates.items) l.refused))
    × (length l.gates.items ≤ l.count)

abbrev pub decreases-loop-state : goal.decreases-loop-state
decreases-loop-state l = l.count - array_vec_len l.gates
