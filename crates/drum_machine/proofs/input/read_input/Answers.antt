use Rattle.std.proofs.Common.{ℕ, List, subst}
use Rattle.step_sequencer.specs.Pattern.{IsFaultAt}
use Rattle.drum_machine.proofs.input.read_input.Goals as goal

pub returns-clause-fault : goal.returns-clause-fault
returns-clause-fault g c = (
  c.in-Ok.ensures.quiet (λ is. cc is),
  c.in-Ok.text.items,
  c.in-Ok.ensures.whole,
  subst (λ (text : List ℕ). IsFaultAt text c.in-Err.fault.line) c.deref.ensures.value c.in-Err.ensures.fault,
)
