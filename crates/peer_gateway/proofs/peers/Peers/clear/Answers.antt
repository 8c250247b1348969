use Rattle.peer_gateway.proofs.LifeLemmas.{stands_none}
use Rattle.peer_gateway.proofs.peers.Peers.clear.Goals as goal

pub returns-clause-stands : goal.returns-clause-stands
returns-clause-stands c = stands_none _ c.clear.ensures.items
