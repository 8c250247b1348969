use Rattle.link_shared.proofs.QueueMoves.{wholes}
use Rattle.link_shared.proofs.queue.join_ends.Goals as goal

pub absorb-requires-clause-rule : goal.absorb-requires-clause-rule
absorb-requires-clause-rule c = wholes _ _ _ _ c.requires.pops c.requires.pushes
