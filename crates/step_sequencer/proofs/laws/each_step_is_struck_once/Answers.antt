use Rattle.step_sequencer.proofs.HitLemmas.{steps_once, passed-low, all_in}
use Rattle.step_sequencer.proofs.laws.each_step_is_struck_once.Goals as goal

pub returns-clause-steps : goal.returns-clause-steps
returns-clause-steps c = steps_once

pub returns-clause-passed : goal.returns-clause-passed
returns-clause-passed c = passed-low

pub returns-clause-frames : goal.returns-clause-frames
returns-clause-frames c = all_in
