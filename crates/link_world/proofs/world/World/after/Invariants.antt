use Rattle.std.proofs.Common.{◌≡◌, length, map, take}
use Rattle.link_node.specs.Config.{config_value}
use Rattle.link_world.specs.Standing.{StandsForWorld, peers_in}
use Rattle.link_world.specs.World.{WorldValue, IsWorldOf, turn_value}
use Rattle.link_world.proofs.world.World.after.Given as goal

abbrev pub invariant-loop-turn : goal.invariant-loop-turn
invariant-loop-turn l =
    (peers_in l.world ≡ length l.configs)
    × ((w : WorldValue) × IsWorldOf (map config_value l.configs) l.now (map turn_value (take l.turn-index l.schedule)) w × StandsForWorld l.world w)
