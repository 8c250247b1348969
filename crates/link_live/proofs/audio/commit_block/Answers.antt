use Rattle.std.proofs.Common.{refl, ◌∙◌, pos, w64, arith}
use Rattle.std.proofs.lemmas.Int.{to_z-of_z}
use Rattle.link_script.specs.declared.live_script.Act.TheVariants.{Tempo}
use Rattle.link_live.proofs.CommitLemmas.{committed_none, committed_more, committed_all, room_at}
use Rattle.link_live.proofs.audio.commit_block.Goals as goal

pub loop-command-init : goal.loop-command-init
loop-command-init g c = record {
  committed = committed_none _ c.args.number c.args.capture.state c.args.pass.now c.args.commits.now.items;
  state = refl;
  shown = c.requires.shown;
  tidy = c.requires.tidy.1;
  capacity = refl;
}

pub commit_one-requires-clause-numbers : goal.commit_one-requires-clause-numbers
commit_one-requires-clause-numbers g c κs within =
    let room = room_at _ c.args.number c.args.commands.now c.loop-command.command-index record { block = 0; act = Tempo (pos 0) } c.args.capture.state _ _ _ _ c.loop-command-test.true c.loop-command.invariant.committed in omega (arith, room.0, c.requires.numbers)

pub commit_one-requires-clause-room : goal.commit_one-requires-clause-room
commit_one-requires-clause-room g c κs within =
    let room = room_at _ c.args.number c.args.commands.now c.loop-command.command-index record { block = 0; act = Tempo (pos 0) } c.args.capture.state _ _ _ _ c.loop-command-test.true c.loop-command.invariant.committed in
    omega (arith, room.1, c.requires.room, c.loop-command.invariant.capacity)

pub loop-command-preserved : goal.loop-command-preserved
loop-command-preserved g c = record {
  committed = committed_more _ c.args.number c.args.commands.now c.loop-command.command-index record { block = 0; act = Tempo (pos 0) } c.args.capture.state _ _ _ _ _ _ _ c.loop-command-test.true
      c.loop-command.invariant.state c.loop-command.invariant.committed c.commit_one.ensures.committed;
  state = c.commit_one.ensures.state ∙ c.loop-command.invariant.state;
  shown = c.commit_one.ensures.shown;
  tidy = c.commit_one.ensures.tidy;
  capacity = c.commit_one.ensures.capacity ∙ c.loop-command.invariant.capacity;
}

pub returns-clause-committed : goal.returns-clause-committed
returns-clause-committed g c =
    committed_all c.args.start _ c.args.number c.args.commands.now c.loop-command.command-index c.args.capture.state _ _ _ _
    (to_z-of_z w64 c.args.start (record { sfits = c.ranges.start.sfits }))
    (omega (arith, c.loop-command-test.false)) c.loop-command.invariant.committed
