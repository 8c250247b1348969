use Rattle.std.proofs.Common.{rules}
use Rattle.peer_gateway.proofs.LifeLemmas.{stands_none}
use Rattle.peer_gateway.proofs.peers.Peers.new.Goals as goal

pub returns-clause-stands : goal.returns-clause-stands
returns-clause-stands c = stands_none _ (search rules)
