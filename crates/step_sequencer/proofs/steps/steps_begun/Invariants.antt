use Rattle.std.proofs.Common.{◌≡◌}
use Rattle.step_sequencer.specs.Steps.{struck_from}
use Rattle.step_sequencer.proofs.steps.steps_begun.Given as goal

abbrev pub invariant-loop-k : goal.invariant-loop-k
invariant-loop-k l = l.hits.items ≡ struck_from l.state l.origin l.first l.k
