use Rattle.std.proofs.Common.{◌<◌, length, rules}
use Rattle.link_node.specs.Config.{config_value}
use Rattle.link_world.specs.Stored.{IsStoredConfig}
use Rattle.link_world.proofs.Lists.{all_more}
use Rattle.link_world.proofs.stored.configs_are_stored.Goals as goal

pub loop-config-preserved : goal.loop-config-preserved
loop-config-preserved c =
    let within : c.loop-config.config-index < length c.args.configs.now = search rules in
    all_more IsStoredConfig config_value c.args.configs.now c.loop-config.config-index c.config-item.result within c.config-item.is c.loop-config.invariant c.config_is_stored.ensures
