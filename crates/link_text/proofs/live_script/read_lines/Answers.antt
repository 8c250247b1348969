use Rattle.std.proofs.Common.{arith}
use Rattle.link_text.proofs.LiveLemmas.{bad_command, told_ahead}
use Rattle.link_text.proofs.live_script.read_lines.Goals as goal

pub commands_from-requires-clause-room_for_apps : goal.commands_from-requires-clause-room_for_apps
commands_from-requires-clause-room_for_apps c =
    omega (arith, c.requires.room_for_apps, told_ahead c.args.text.now c.in-Ok.start.behind c.in-Ok.ensures.start.ahead)

pub commands_from-requires-clause-room_for_blocks : goal.commands_from-requires-clause-room_for_blocks
commands_from-requires-clause-room_for_blocks c =
    omega (arith, c.requires.room_for_blocks, told_ahead c.args.text.now c.in-Ok.start.behind c.in-Ok.ensures.start.ahead)

pub returns-in-Err-commands_from-clause-fault : goal.returns-in-Err-commands_from-clause-fault
returns-in-Err-commands_from-clause-fault c =
    bad_command c.args.text.now _ _ _ c.in-Ok.start.behind c.in-Err-commands_from.place c.requires.short c.in-Ok.ensures.start c.in-Err-commands_from.ensures.fault
