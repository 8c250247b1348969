use Rattle.std.proofs.Common.{arith, subst, List, ℕ}
use Rattle.link_text.specs.LiveParts.{HasCommands}
use Rattle.link_text.specs.Places.{counting_from}
use Rattle.link_text.proofs.PlaceLemmas.{counting_end}
use Rattle.link_text.proofs.LiveLemmas.{commands_more, room_next}
use Rattle.link_text.proofs.live_script.commands_from.Goals as goal

pub loop-place-preserved : goal.loop-place-preserved
loop-place-preserved c =
    let takes = c.take_command.ensures.taken c.if-not-take_command.false in
    let room = room_next _ _ _ _ _ _ _ c.line_from.ensures.line.counting takes in
    record {
      ahead = c.line_from.ensures.ahead;
      commands = commands_more _ _ _ _ _ _ _ _ c.loop-place.invariant.commands c.line_from.ensures.line.counting takes;
      room_for_apps = omega (arith, room, c.loop-place.invariant.room_for_apps, c.take_command.ensures.apps_fit);
      room_for_blocks = omega (arith, room, c.loop-place.invariant.room_for_blocks, c.take_command.ensures.blocks_fit);
    }

pub returns-clause-commands : goal.returns-clause-commands
returns-clause-commands c =
    subst (λ (rest : List (List ℕ)). HasCommands (counting_from c.args.text.now c.args.start.at) c.loop-place.apps.items c.loop-place.blocks.items rest)
    (counting_end c.args.text.now c.loop-place.place.at (omega (arith, c.loop-place-test.false))) c.loop-place.invariant.commands
