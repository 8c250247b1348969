use Rattle.std.proofs.Common.{map, take}
use Rattle.std.specs.List.{AllByRecursion}
use Rattle.link_node.specs.Config.{gate_value}
use Rattle.link_world.specs.Stored.{IsStoredGate}
use Rattle.link_world.proofs.stored.gates_are_stored.Given as goal

abbrev pub invariant-loop-gate : goal.invariant-loop-gate
invariant-loop-gate l = AllByRecursion IsStoredGate (map gate_value (take l.gate-index l.gate-items))
