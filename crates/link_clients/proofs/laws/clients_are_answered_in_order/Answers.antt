use Rattle.link_clients.proofs.VisitLemmas.{answered_in_order}
use Rattle.link_clients.proofs.laws.clients_are_answered_in_order.Goals as goal

pub returns : goal.returns
returns c = answered_in_order
