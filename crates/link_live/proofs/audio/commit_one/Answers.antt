use Rattle.std.proofs.Common.{◌∙◌, ◌+◌, ◌^◌, length, w64, arith}
use Rattle.std.proofs.lemmas.Int.{to_z-of_z}
use Rattle.link_live.proofs.CommitLemmas.{room_for_one, committed_one, committed_other, shown_then, commit_is}
use Rattle.link_live.proofs.audio.commit_one.Goals as goal

pub commit_audio-made-requires-clause-room : goal.commit_audio-made-requires-clause-room
commit_audio-made-requires-clause-room g c κs within =
    let room = room_for_one c.args.number c.args.command (length c.args.pass.now.made + 1) (2 ^ 60) c.if-command-number.true (omega (arith, c.requires.numbers)) in omega (arith, room)

pub push_reserved-requires : goal.push_reserved-requires
push_reserved-requires g c =
    let room = room_for_one c.args.number c.args.command _ _ c.if-command-number.true c.requires.room in omega (arith, room, c.args.commits.now.ok.0)

pub returns-then-command-number-clause-committed : goal.returns-then-command-number-clause-committed
returns-then-command-number-clause-committed g c =
    committed_one c.args.start c.args.number c.args.command c.args.capture.now.state c.args.pass.now _ _ _ _ c.if-command-number.true
    (c.commit_of-commit.ensures.value ∙ commit_is c.args.start _ c.args.capture.now c.args.pass.now.made c.args.command.act
    (to_z-of_z w64 c.args.start (record { sfits = c.ranges.start.sfits })) c.requires.shown)
    c.commit_audio-made.ensures.made c.push_reserved.ensures.items

pub returns-then-command-number-clause-shown : goal.returns-then-command-number-clause-shown
returns-then-command-number-clause-shown g c =
    shown_then c.args.capture.now.state _ c.args.pass.now _ _ _ c.commit_audio-made.ensures.made c.commit_audio-made.ensures.number c.with_own-capture.ensures.value

pub returns-else-command-number-clause-committed : goal.returns-else-command-number-clause-committed
returns-else-command-number-clause-committed g c =
    committed_other c.args.start c.args.number c.args.command c.args.capture.now.state c.args.pass.now c.args.commits.now.items c.if-command-number.false
