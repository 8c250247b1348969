use Rattle.std.proofs.Common.{Bool, rules, w64}
use Rattle.std.proofs.lemmas.Int.{to_z-of_z}
use Rattle.link_shared.proofs.TurnLemmas.{turned, turned_as}
use Rattle.link_shared.proofs.hub.Hub.turn.Goals as goal

pub returns : goal.returns
returns g c =
    let first : Bool = c.take_item-first.result.full in
    let second : Bool = c.take_audio-second.result in
    let third : Bool = c.take_got-third.result in record {
      turned = turned_as _ _ _ _ _ _ _ _ (to_z-of_z w64 c.args.now c.ranges.now)
          (turned _ _ _ _ _ _ _ _ _ _ _ first second third (search rules) c.take_item-first.ensures.taken c.take_audio-second.ensures.taken c.take_got-third.ensures.taken);
    }
