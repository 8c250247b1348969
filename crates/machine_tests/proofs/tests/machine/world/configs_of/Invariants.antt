use Rattle.std.specs.Prelude.{All}
use Rattle.link_node.specs.Config.{config_value, IsConfig}
use Rattle.link_node.specs.declared.config.Config.{Config}
use Rattle.machine_tests.proofs.tests.machine.world.configs_of.Given as goal

abbrev pub invariant-loop-peer : goal.invariant-loop-peer
invariant-loop-peer l = All (λ (config : Config). IsConfig (config_value config)) l.configs.items
