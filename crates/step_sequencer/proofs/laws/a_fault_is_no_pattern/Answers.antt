use Rattle.step_sequencer.proofs.PatternLemmas.{fault_no_pattern}
use Rattle.step_sequencer.proofs.laws.a_fault_is_no_pattern.Goals as goal

pub returns : goal.returns
returns c = fault_no_pattern
