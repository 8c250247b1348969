use Rattle.link_shared.proofs.QueueMoves.{pops, sees_rest}
use Rattle.link_shared.proofs.queue.pop_item.Goals as goal

pub pop_as-requires-clause-rule : goal.pop_as-requires-clause-rule
pop_as-requires-clause-rule g c = (pops _ _ c.requires.pops, sees_rest _ _)
