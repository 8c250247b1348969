use Rattle.std.proofs.Common.{◌≡◌, ◌≤◌, ◌+◌, ◌*◌, ◌++◌, length, take}
use Rattle.link_node.specs.Machine.{Machine}
use Rattle.link_node.specs.Standing.{HasParts}
use Rattle.link_node.specs.Telling.{alive_of, sent_from}
use Rattle.link_node.proofs.node.Node.send_alives.Given as goal

abbrev pub invariant-loop-k : goal.invariant-loop-k
invariant-loop-k l = record {
  sends : (m : Machine) → HasParts l.self m → l.sends ≡ l.fn.sends ++ sent_from (alive_of m) 0 (take l.k m.config.gates);
  len : length l.sends ≤ length l.fn.sends + 32 * l.k;
}
