use Rattle.std.proofs.Common.{MatchResult, rules, subst}
use Rattle.std.proofs.lemmas.Fn.{always_returns_same}
use Rattle.peer_gateway.proofs.KeyLemmas.{row_total, row_at}
use Rattle.peer_gateway.proofs.OrderLemmas.{place_found}
use Rattle.peer_gateway.specs.Order.{order_at, IsAt, BelongsAt}
use Rattle.peer_gateway.specs.Table.{Table}
use Rattle.peer_gateway.proofs.peers.Peers.place_of.Goals as goal

pub returns-clause-place : goal.returns-clause-place
returns-clause-place c =
    subst (λ (t : Table). MatchResult c.binary_search_by.result (IsAt (order_at c.args.gate c.args.id.now) t.rows)
    (BelongsAt (order_at c.args.gate c.args.id.now) t.rows)) c.self.view_is
    (rw c.deref.ensures.value at
    (place_found row_total c.deref.result.now (row_at c.args.gate c.args.id.now) c.binary_search_by.result
    (rw c.deref.ensures.value c.self.invariant.0.in_order)
    c.binary_search_by.ensures.bound
    (c.binary_search_by.ensures.position (order_at c.args.gate c.args.id.now)
    (always_returns_same _ _ _ (λ a r f' k. search rules)))))
