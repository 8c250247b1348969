use Rattle.step_sequencer.proofs.PatternLemmas.{HasMarks}
use Rattle.step_sequencer.proofs.pattern.read_marks.Given as goal

abbrev pub invariant-loop-k : goal.invariant-loop-k
invariant-loop-k l = HasMarks l.text l.marks l.k
