use Rattle.link_shared.proofs.QueueMoves.{shows}
use Rattle.link_shared.proofs.queue.show_pass.Goals as goal

pub another-requires-clause-rule : goal.another-requires-clause-rule
another-requires-clause-rule c = shows _ _
