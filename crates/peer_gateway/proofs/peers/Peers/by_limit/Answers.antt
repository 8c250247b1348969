use Rattle.std.proofs.Common.{List, length, map, sym, subst, ap, ◌∙◌}
use Rattle.peer_gateway.specs.Expiry.{expiry_of, IsInOrder, HaveSame}
use Rattle.peer_gateway.specs.Happenings.{StandsFor, rows_of}
use Rattle.peer_gateway.specs.Table.{Table}
use Rattle.peer_gateway.specs.declared.expiry.Expiry.{Expiry}
use Rattle.peer_gateway.proofs.PickLemmas.{in_order, same_limits, count_limits}
use Rattle.peer_gateway.proofs.peers.Peers.by_limit.Goals as goal

pub returns-clause-in_order : goal.returns-clause-in_order
returns-clause-in_order c =
    subst (λ (es : List Expiry). IsInOrder es) (sym c.deref.ensures.value) (in_order c.self.inside.by_limit.items c.self.invariant.0.limits_in_order)

pub returns-clause-rows : goal.returns-clause-rows
returns-clause-rows c life stands =
    subst (λ (es : List Expiry). HaveSame es (map expiry_of (rows_of life))) (sym c.deref.ensures.value)
    (same_limits _ life c.self.invariant.0 (subst (λ (t : Table). StandsFor t life) (sym c.self.view_is) stands))

pub returns-clause-count : goal.returns-clause-count
returns-clause-count c life stands =
    ap (λ (es : List Expiry). length es) c.deref.ensures.value
    ∙ count_limits _ life c.self.invariant.0 (subst (λ (t : Table). StandsFor t life) (sym c.self.view_is) stands)
