use Rattle.std.proofs.Common.{inl, inr}
use Rattle.link_node.proofs.HearingLemmas.{step_heard, step_waits}
use Rattle.link_node.proofs.staying.heard_timelines_are_taken.Goals as goal

pub returns-clause-known : goal.returns-clause-known
returns-clause-known c = λ m e msg hears same knows. step_heard m e msg hears same (inl knows)

pub returns-clause-new : goal.returns-clause-new
returns-clause-new c = λ m e msg hears same unknown room. (step_heard m e msg hears same (inr room), step_waits m e msg hears same unknown room)
