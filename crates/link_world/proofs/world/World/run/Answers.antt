use Rattle.std.proofs.Common.{ℤ, List, IfOk, map, subst, w64}
use Rattle.std.proofs.lemmas.Int.{to_z-of_z}
use Rattle.std.proofs.lemmas.List.Elements.{recursion_from_All}
use Rattle.std.proofs.lemmas.Result.{IfOk-weaker}
use Rattle.link_node.specs.Config.{config_value, ConfigValue, IsConfig}
use Rattle.link_node.specs.declared.config.Config.{Config}
use Rattle.link_world.specs.Standing.{StandsForWorld, IsRun}
use Rattle.link_world.specs.World.{WorldValue, TurnValue, IsWorldOf, turn_value}
use Rattle.link_world.specs.declared.world.World.{World}
use Rattle.link_world.proofs.Lists.{all_mapped}
use Rattle.link_world.proofs.world.World.run.Goals as goal

pub returns-clause-run : goal.returns-clause-run
returns-clause-run c =
    let configs = c.args.configs.now in
    let values : List ConfigValue = map config_value configs in
    let turns : List TurnValue = map turn_value c.args.schedule.now in
    let are = all_mapped IsConfig config_value configs (recursion_from_All (λ (config : Config). IsConfig (config_value config)) configs c.requires.configs) in
    IfOk-weaker c.after.result (λ (world : World). (w : WorldValue) × IsWorldOf values c.args.now turns w × StandsForWorld world w) (IsRun values c.args.now turns)
    (λ world s.
    let sound = c.worlds_are_sound.ensures values c.args.now turns s.0 are c.configs_are_stored.ensures c.requires.moment s.1 in
    record {
      value = s.0;
      after = s.1;
      stands = s.2;
      origin = sound.origin;
      agreement = c.the_same_agree.ensures s.0;
      convergence = c.who_took_all_converges.ensures values c.args.now turns s.0 sound.origin;
      round = sound.round;
      message = sound.message;
      clicks = sound.clicks;
    })
    (subst (λ (n : ℤ). IfOk c.after.result (λ (world : World). (w : WorldValue) × IsWorldOf values n turns w × StandsForWorld world w))
    (to_z-of_z w64 c.args.now c.ranges.now) c.after.ensures.stands)
