use Rattle.std.proofs.Common.{◌+◌, length, map, refl, ap, arith}
use Rattle.std.proofs.lemmas.List.{length-map}
use Rattle.link_live.specs.AudioRun.{acts_in}
use Rattle.link_live.proofs.AudioLemmas.{has_begun, has_played_all, room_for_block}
use Rattle.link_live.proofs.audio.audio_loop.Goals as goal

pub loop-played-init : goal.loop-played-init
loop-played-init g c = record {
  playing = has_begun _ _ _ _ _ _ c.requires.empty.0 c.requires.empty.1 (ap (map (λ clicks. clicks.items)) c.requires.empty.2);
  faults = refl;
  within = omega arith;
  reads = refl;
  commits = refl;
  plays = refl;
}

pub audio_block-requires-clause-numbers : goal.audio_block-requires-clause-numbers
audio_block-requires-clause-numbers g c κs within =
    let room = room_for_block _ _ _ _ _ _ _ _ _ c.loop-played.invariant.playing in
    let acts = ap (λ commands. length (acts_in (c.loop-played.played + 1) commands)) c.deref.ensures.value in omega (arith, room.3, acts, c.requires.numbers)

pub audio_block-requires-clause-room : goal.audio_block-requires-clause-room
audio_block-requires-clause-room g c κs within =
    let room = room_for_block _ _ _ _ _ _ _ _ _ c.loop-played.invariant.playing in
    let plays = length-map c.loop-played.report.plays.items (λ clicks. clicks.items) in (
      omega (arith, room.0, c.requires.room.0, c.loop-played.invariant.reads, c.loop-played-test.true),
      omega (arith, room.1, plays, c.requires.room.1, c.loop-played.invariant.plays, c.loop-played-test.true),
    )

pub audio_block-requires-clause-room_for_commits : goal.audio_block-requires-clause-room_for_commits
audio_block-requires-clause-room_for_commits g c κs within =
    let room = room_for_block _ _ _ _ _ _ _ _ _ c.loop-played.invariant.playing in
    let acts = ap (λ commands. length (acts_in (c.loop-played.played + 1) commands)) c.deref.ensures.value in
    omega (arith, room.2, acts, c.requires.room_for_commits, c.loop-played.invariant.commits)

pub returns-clause-run : goal.returns-clause-run
returns-clause-run g c =
    has_played_all _ _ _ _ _ _ _ _ _ _ c.loop-played.invariant.within (omega (arith, c.loop-played-test.false)) c.loop-played.invariant.playing
