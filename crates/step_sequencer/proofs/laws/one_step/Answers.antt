use Rattle.step_sequencer.proofs.StepLemmas.{step_at-IsStep, one_step}
use Rattle.step_sequencer.proofs.laws.one_step.Goals as goal

pub returns-clause-there : goal.returns-clause-there
returns-clause-there c = step_at-IsStep

pub returns-clause-one : goal.returns-clause-one
returns-clause-one c = one_step
