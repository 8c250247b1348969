use Rattle.link_node.proofs.KeptLemmas.{step_keeps, held_keeps}
use Rattle.link_node.proofs.staying.timelines_stay.Goals as goal

pub returns-clause-known : goal.returns-clause-known
returns-clause-known c = λ m e session tl sound same took knows. step_keeps m e session tl sound.sessions.distinct same took knows

pub returns-clause-current : goal.returns-clause-current
returns-clause-current c = λ m e tl sound after same stays has. held_keeps m e tl sound.sessions.distinct after.sessions.distinct same stays has
