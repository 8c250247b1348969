use Rattle.std.proofs.Common.{◌≡◌, sym, subst, ◌∙◌}
use Rattle.lk_base.specs.declared.ids.NodeId.{NodeId}
use Rattle.peer_gateway.specs.Answers.{peers_in}
use Rattle.peer_gateway.specs.Happenings.{StandsFor}
use Rattle.peer_gateway.specs.Table.{Table}
use Rattle.peer_gateway.proofs.CountLemmas.{counts_peers}
use Rattle.peer_gateway.proofs.KeyLemmas.{id_from_test}
use Rattle.peer_gateway.proofs.peers.Peers.count.Goals as goal

pub returns-then-is_same : goal.returns-then-is_same
returns-then-is_same c life stands =
    let watched = c.self.inside.watched in
    let same : watched ≡ c.args.session = id_from_test watched c.args.session (sym c.is_same.ensures ∙ c.if-is_same.true) in
    subst (λ (s : NodeId). c.self.inside.in_watched ≡ peers_in s life) same
    (c.self.invariant.4
    ∙ counts_peers watched _ life c.self.invariant.0.in_order (subst (λ (t : Table). StandsFor t life) (sym c.self.view_is) stands))

pub returns-else-is_same : goal.returns-else-is_same
returns-else-is_same c life stands =
    c.ids_in.ensures
    ∙ counts_peers c.args.session _ life c.self.invariant.0.in_order (subst (λ (t : Table). StandsFor t life) (sym c.self.view_is) stands)
