use Rattle.std.proofs.Common.{List, subst, sym}
use Rattle.peer_gateway.specs.Order.{entry_order, Rise, IsWithout}
use Rattle.peer_gateway.specs.declared.expiry.Expiry.{Expiry}
use Rattle.peer_gateway.proofs.KeyLemmas.{entry_total, entry_equal}
use Rattle.peer_gateway.proofs.OrderLemmas.{rise_removed, removed, had_never, absent}
use Rattle.peer_gateway.proofs.peers.limits.end_entry.Goals as goal

pub returns-in-Ok-clause-in_order : goal.returns-in-Ok-clause-in_order
returns-in-Ok-clause-in_order c =
    let xs = c.args.by_limit.now.items in
    subst (λ (zs : List Expiry). Rise entry_order zs) (sym c.remove-ended.ensures.items)
    (rise_removed entry_order xs c.in-Ok.at c.args.entry.now c.in-Ok.ensures.within c.requires.in_order)

pub returns-in-Ok-clause-ended : goal.returns-in-Ok-clause-ended
returns-in-Ok-clause-ended c =
    let xs = c.args.by_limit.now.items in
    let place = c.in-Ok.ensures in
    subst (λ (zs : List Expiry). IsWithout c.args.entry.now xs zs) (sym c.remove-ended.ensures.items)
    (removed entry_total xs c.args.entry.now c.in-Ok.at place.within (entry_equal _ _ (place.equal c.args.entry.now)) c.requires.in_order)

pub returns-in_default-clause-ended : goal.returns-in_default-clause-ended
returns-in_default-clause-ended c =
    let xs = c.args.by_limit.now.items in
    had_never xs c.args.entry.now (absent entry_total xs c.args.entry.now c.in_default.field-0 c.in_default.ensures)
