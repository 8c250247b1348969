use Rattle.std.proofs.Common.{◌-◌, ◌≡◌, ◌≤◌, length, pos}
use Rattle.drum_machine.proofs.RehearsalLemmas.{IsRehearsing}
use Rattle.drum_machine.proofs.rehearsal.play_bars.Given as goal

abbrev pub invariant-loop-block : goal.invariant-loop-block
invariant-loop-block g l = record {
  within : l.block ≤ 373;
  gates : length l.hub.config.gates ≡ 1;
  handed : l.hub.handed ≡ l.fn.hub.handed;
  made : length l.pass.made ≤ l.block;
  pattern : l.drums.pattern ≡ l.fn.pattern;
  origin : l.drums.origin ≡ pos 1_000_000;
  rehearsing : IsRehearsing l.block l.fn.pattern l.pass l.score.mpb (g.K.Sink.seen l.fn.out).told (g.K.Sink.seen l.out).told;
  faults : (g.K.Sink.seen l.out).faults ≡ (g.K.Sink.seen l.fn.out).faults;
}

abbrev pub decreases-loop-block : goal.decreases-loop-block
decreases-loop-block g l = 373 - l.block
