use Rattle.step_sequencer.proofs.SoundLemmas.{HasSounds}
use Rattle.step_sequencer.proofs.kit.Kit.block.Given as goal

abbrev pub invariant-loop-k : goal.invariant-loop-k
invariant-loop-k l = HasSounds l.pattern l.state l.origin l.fn.self l.first l.k l.samples.items l.self
