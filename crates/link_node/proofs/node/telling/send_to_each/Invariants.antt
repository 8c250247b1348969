use Rattle.std.proofs.Common.{◌≡◌, ◌+◌, ◌++◌, length, map, take}
use Rattle.link_node.specs.Sent.{sent_on}
use Rattle.link_node.proofs.node.telling.send_to_each.Given as goal

abbrev pub invariant-loop-to : goal.invariant-loop-to
invariant-loop-to l = record {
  sends : l.sends ≡ l.fn.sends ++ map (sent_on l.gate l.bytes.items) (take l.to-index l.peers.items);
  len : length l.sends ≡ length l.fn.sends + l.to-index;
}
