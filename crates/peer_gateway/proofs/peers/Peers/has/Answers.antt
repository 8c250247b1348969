use Rattle.std.proofs.Common.{sym, subst, ◌∙◌}
use Rattle.peer_gateway.specs.Answers.{is_in, has_peers}
use Rattle.peer_gateway.specs.Happenings.{StandsFor}
use Rattle.peer_gateway.specs.Table.{Table}
use Rattle.peer_gateway.proofs.LifeLemmas.{any_stands}
use Rattle.peer_gateway.proofs.peers.Peers.has.Goals as goal

pub returns : goal.returns
unfolding has_peers
returns c life stands =
    c.any_in.ensures ∙ any_stands (is_in c.args.session) _ life (subst (λ (t : Table). StandsFor t life) (sym c.self.view_is) stands)
