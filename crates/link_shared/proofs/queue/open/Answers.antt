use Rattle.std.proofs.Common.{rules}
use Rattle.link_shared.proofs.QueueMoves.{begins, parts}
use Rattle.link_shared.proofs.queue.open.Goals as goal

pub ruled-requires-clause-rule : goal.ruled-requires-clause-rule
ruled-requires-clause-rule c = begins

pub another-popping-requires-clause-rule : goal.another-popping-requires-clause-rule
another-popping-requires-clause-rule c = parts _ _ (search rules) (search rules)
