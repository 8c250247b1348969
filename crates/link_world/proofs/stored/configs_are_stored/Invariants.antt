use Rattle.std.proofs.Common.{map, take}
use Rattle.std.specs.List.{AllByRecursion}
use Rattle.link_node.specs.Config.{config_value}
use Rattle.link_world.specs.Stored.{IsStoredConfig}
use Rattle.link_world.proofs.stored.configs_are_stored.Given as goal

abbrev pub invariant-loop-config : goal.invariant-loop-config
invariant-loop-config l = AllByRecursion IsStoredConfig (map config_value (take l.config-index l.configs))
