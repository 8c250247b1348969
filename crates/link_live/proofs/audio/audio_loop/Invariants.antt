use Rattle.std.proofs.Common.{◌≡◌, ◌≤◌, ◌+◌, ◌-◌, map, vec_capacity}
use Rattle.link_live.specs.PlayingRun.{IsPlaying}
use Rattle.link_live.proofs.audio.audio_loop.Given as goal

abbrev pub invariant-loop-played : goal.invariant-loop-played
invariant-loop-played g l = record {
  playing : IsPlaying l.fn.script.blocks.items (l.played + 1) l.fn.pass l.pass (g.A.Audio.seen l.fn.audio).told (g.A.Audio.seen l.audio).told
      l.report.reads.items l.report.commits.items (map (λ clicks. clicks.items) l.report.plays.items);
  faults : (g.A.Audio.seen l.audio).faults ≡ (g.A.Audio.seen l.fn.audio).faults;
  within : l.played ≤ l.blocks;
  reads : vec_capacity l.report.reads ≡ vec_capacity l.fn.report.reads;
  commits : vec_capacity l.report.commits ≡ vec_capacity l.fn.report.commits;
  plays : vec_capacity l.report.plays ≡ vec_capacity l.fn.report.plays;
}

abbrev pub decreases-loop-played : goal.decreases-loop-played
decreases-loop-played g l = l.blocks - l.played
