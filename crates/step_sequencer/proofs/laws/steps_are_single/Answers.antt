use Rattle.step_sequencer.proofs.StepLemmas.{step-le, step-single}
use Rattle.step_sequencer.proofs.laws.steps_are_single.Goals as goal

pub returns-clause-low : goal.returns-clause-low
returns-clause-low c = step-le

pub returns-clause-high : goal.returns-clause-high
returns-clause-high c = step-single
