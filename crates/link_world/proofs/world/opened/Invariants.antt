use Rattle.std.proofs.Common.{map, take}
use Rattle.link_node.specs.Config.{config_value}
use Rattle.link_world.specs.Standing.{AreStanding}
use Rattle.link_world.specs.World.{opened_world}
use Rattle.link_world.proofs.world.opened.Given as goal

abbrev pub invariant-loop-config : goal.invariant-loop-config
invariant-loop-config l =
    AreStanding l.peers.items (opened_world (map config_value (take l.config-index l.configs)) l.now).machines
