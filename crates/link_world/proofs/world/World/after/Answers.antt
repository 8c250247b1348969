use Rattle.std.proofs.Common.{◌<◌, ◌≤◌, ℤ, w64, List, length, map, take, refl, ap, subst, sym, ◌∙◌, rules}
use Rattle.std.proofs.lemmas.Int.{to_z-of_z}
use Rattle.std.proofs.lemmas.List.{length-map}
use Rattle.link_node.specs.Config.{config_value}
use Rattle.link_node.specs.Event.{sending_value}
use Rattle.link_world.specs.World.{TurnValue, IsWorldOf, IsAfter, turn_value, opened_world}
use Rattle.link_world.proofs.StandingLemmas.{standing-length}
use Rattle.link_world.proofs.Lists.{takes_more, takes_all}
use Rattle.link_world.proofs.TurnLemmas.{after_more}
use Rattle.link_world.proofs.world.World.after.Goals as goal

pub loop-turn-init : goal.loop-turn-init
loop-turn-init c =
    let standing = c.in_ok-opened.ensures in
    let values = map config_value c.args.configs.now in (
      standing-length c.in_ok-opened.field-0.items (opened_world values _).machines standing ∙ length-map values _ ∙ length-map c.args.configs.now config_value,
      (_, refl, record { peers = standing; sent = ap (λ l. map sending_value l) c.new-2.ensures.items }),
    )

pub loop-turn-preserved : goal.loop-turn-preserved
loop-turn-preserved c =
    let was = c.loop-turn.invariant in
    let within : c.loop-turn.turn-index < length c.args.schedule.now = search rules in
    let more = takes_more turn_value c.args.schedule.now c.loop-turn.turn-index c.turn-item.result within c.turn-item.is in
    let reached = was.1 in
    let next = c.in_ok-take.ensures.happens reached.0 reached.2 in
    let opening = opened_world (map config_value c.args.configs.now) _ in (
      c.in_ok-take.ensures.peers ∙ was.0,
      (
        next.0,
        subst (λ (l : List TurnValue). IsAfter opening l next.0) (sym more) (after_more opening reached.0 next.0 (map turn_value (take c.loop-turn.turn-index c.args.schedule.now)) (turn_value c.turn-item.result) reached.1 next.1),
        next.2,
      ),
    )

pub returns-clause-stands : goal.returns-clause-stands
returns-clause-stands c =
    let was = c.loop-turn.invariant.1 in
    let configs = map config_value c.args.configs.now in
    let past : length c.args.schedule.now ≤ c.loop-turn.turn-index = search rules in
    let turns = takes_all turn_value c.args.schedule.now c.loop-turn.turn-index past in (
      was.0,
      subst (λ (l : List TurnValue). IsWorldOf configs c.args.now l was.0) turns
          (subst (λ (now : ℤ). IsWorldOf configs now (map turn_value (take c.loop-turn.turn-index c.args.schedule.now)) was.0) (to_z-of_z w64 _ c.ranges.now) was.1),
      was.2,
    )
