use Rattle.std.proofs.Common.{◌≡◌, IsOk, List, subst, sym, rules, ◌∷◌, ◌++◌, take, drop}
use Rattle.peer_gateway.specs.Order.{entry_order, Rise, IsWith}
use Rattle.peer_gateway.specs.declared.expiry.Expiry.{Expiry}
use Rattle.peer_gateway.proofs.KeyLemmas.{entry_total, entry_equal}
use Rattle.peer_gateway.proofs.OrderLemmas.{rise_inserted, inserted, had_already, found_itself}
use Rattle.peer_gateway.proofs.peers.limits.add_entry.Goals as goal

pub returns-in-Err-clause-in_order : goal.returns-in-Err-clause-in_order
returns-in-Err-clause-in_order c =
    let xs = c.args.by_limit.now.items in
    let fits : IsOk c.insert-inserted.result = search rules in
    let made : c.insert-inserted.new.self.items ≡ take c.in-Err.at xs ++ c.args.entry ∷ drop c.in-Err.at xs = search rules in
    subst (λ (zs : List Expiry). Rise entry_order zs) (sym made)
    (rise_inserted entry_total xs c.args.entry c.in-Err.at c.requires.in_order c.in-Err.ensures)

pub returns-in-Err-clause-added : goal.returns-in-Err-clause-added
returns-in-Err-clause-added c =
    let xs = c.args.by_limit.now.items in
    let fits : IsOk c.insert-inserted.result = search rules in
    let made : c.insert-inserted.new.self.items ≡ take c.in-Err.at xs ++ c.args.entry ∷ drop c.in-Err.at xs = search rules in
    subst (λ (zs : List Expiry). IsWith c.args.entry xs zs) (sym made) (inserted xs c.args.entry c.in-Err.at)

pub returns-in_default-clause-added : goal.returns-in_default-clause-added
returns-in_default-clause-added c =
    let xs = c.args.by_limit.now.items in
    had_already xs c.args.entry (found_itself entry_equal xs c.args.entry c.in_default.field-0 c.in_default.ensures)
