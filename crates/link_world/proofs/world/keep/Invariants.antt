use Rattle.std.proofs.Common.{◌≡◌, ◌++◌, map, take}
use Rattle.link_node.specs.Event.{sending_value}
use Rattle.link_world.proofs.world.keep.Given as goal

abbrev pub invariant-loop-sending : goal.invariant-loop-sending
invariant-loop-sending l =
    map sending_value l.sent.items ≡ map sending_value l.initial.sent.items ++ map sending_value (take l.sending-index l.sending-items)
