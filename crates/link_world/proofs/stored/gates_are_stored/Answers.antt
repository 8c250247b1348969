use Rattle.std.proofs.Common.{◌<◌, length, rules}
use Rattle.link_node.specs.Config.{gate_value}
use Rattle.link_world.specs.Stored.{IsStoredGate}
use Rattle.link_world.proofs.Lists.{all_more}
use Rattle.link_world.proofs.stored.gates_are_stored.Goals as goal

pub loop-gate-preserved : goal.loop-gate-preserved
loop-gate-preserved c =
    let gates = c.as_slice-gate-items.result.now in
    let within : c.loop-gate.gate-index < length gates = search rules in
    all_more IsStoredGate gate_value gates c.loop-gate.gate-index c.gate-item.result within c.gate-item.is c.loop-gate.invariant c.endpoint_is_stored.ensures
