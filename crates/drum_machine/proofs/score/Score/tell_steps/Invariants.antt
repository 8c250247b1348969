use Rattle.std.proofs.Common.{◌≡◌, length, take}
use Rattle.lk_outside.specs.Sink.{Appends}
use Rattle.drum_machine.specs.Score.{counted_on, steps_text_of}
use Rattle.drum_machine.proofs.score.Score.tell_steps.Given as goal

abbrev pub invariant-loop-hit : goal.invariant-loop-hit
invariant-loop-hit g l = record {
  told : Appends (g.K.Sink.seen l.fn.out).told (steps_text_of l.pattern (take l.hit-index l.hits)) (g.K.Sink.seen l.out).told;
  steps : l.self.steps ≡ counted_on l.fn.self.steps (length l.hits);
  tempo : l.self.mpb ≡ l.fn.self.mpb;
  events : l.self.events ≡ l.fn.self.events;
  faults : (g.K.Sink.seen l.out).faults ≡ (g.K.Sink.seen l.fn.out).faults;
}
