use Rattle.std.proofs.lemmas.Fn.{always_returns_same}
use Rattle.peer_gateway.proofs.KeyLemmas.{entry_total}
use Rattle.peer_gateway.proofs.OrderLemmas.{place_found}
use Rattle.peer_gateway.specs.Order.{entry_order}
use Rattle.std.proofs.Common.{rules}
use Rattle.peer_gateway.proofs.peers.limits.place_of.Goals as goal

pub returns : goal.returns
returns c =
    rw c.deref.ensures.value at
    (place_found entry_total c.deref.result.now c.args.entry.now c.binary_search_by.result (rw c.deref.ensures.value c.requires)
    c.binary_search_by.ensures.bound
    (c.binary_search_by.ensures.position (λ other. entry_order other c.args.entry.now)
    (always_returns_same _ _ _ (λ a r f' k. search rules))))
