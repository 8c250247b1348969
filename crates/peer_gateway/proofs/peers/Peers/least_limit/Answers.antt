use Rattle.std.proofs.Common.{sym, subst, ◌∙◌}
use Rattle.peer_gateway.specs.Happenings.{StandsFor}
use Rattle.peer_gateway.specs.Table.{Table}
use Rattle.peer_gateway.proofs.PickLemmas.{first_limit_is}
use Rattle.peer_gateway.proofs.peers.Peers.least_limit.Goals as goal

pub returns : goal.returns
returns c life stands =
    c.first_limit.ensures
    ∙ first_limit_is c.self.inside.by_limit.items _ life c.self.invariant.0 (subst (λ (t : Table). StandsFor t life) (sym c.self.view_is) stands)
