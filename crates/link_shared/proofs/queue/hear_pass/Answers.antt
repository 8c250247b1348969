use Rattle.link_shared.proofs.QueueMoves.{hears, sees_heard}
use Rattle.link_shared.proofs.queue.hear_pass.Goals as goal

pub absorb-requires-clause-rule : goal.absorb-requires-clause-rule
absorb-requires-clause-rule c = hears _ _ _ _

pub learn_as-requires-clause-rule : goal.learn_as-requires-clause-rule
learn_as-requires-clause-rule c = sees_heard _ _
