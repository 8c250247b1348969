use Rattle.std.proofs.Common.{◌≡◌, ◌<◌, ◌*◌, ◌++◌, ◌∷◌, List, IsOk, length, filter, take, drop, subst, sym, ap, ◌∙◌, rules, arith}
use Rattle.peer_gateway.specs.Answers.{is_on}
use Rattle.peer_gateway.specs.Expiry.{expiry_of}
use Rattle.peer_gateway.specs.Order.{order_at, BelongsAt, IsTable, IsWith, IsWritten}
use Rattle.peer_gateway.specs.Picks.{others_of}
use Rattle.peer_gateway.specs.Table.{Table}
use Rattle.peer_gateway.specs.declared.expiry.Expiry.{Expiry}
use Rattle.peer_gateway.specs.declared.row.PeerRow.{PeerRow}
use Rattle.peer_gateway.proofs.AloneLemmas.{number_added, others_added, place_added}
use Rattle.peer_gateway.proofs.TableLemmas.{row_added, room_with, lengths}
use Rattle.peer_gateway.proofs.peers.Peers.add_row.Goals as goal
use Rattle.peer_gateway.proofs.peers.Peers.add_row.Goals.{After-expiry, After-insert-inserted}

gate : (c : After-expiry) → c.args.row.gate.0 < c.self.inside.gates
gate c = subst (λ (t : Table). c.args.row.gate.0 < t.gates) (sym c.self.view_is) c.requires.gate

few : (c : After-expiry) → length (filter (is_on c.args.row.gate) c.self.inside.rows.items) < 128
few c = subst (λ (t : Table). length (filter (is_on c.args.row.gate) t.rows) < 128) (sym c.self.view_is) c.requires.room

room : (c : After-expiry) → length c.self.inside.rows.items < 128 * c.self.inside.gates
room c = room_with c.args.row c.self.invariant.0 (gate c) (few c)

place : (c : After-expiry) → BelongsAt (order_at c.args.row.gate c.args.row.id) c.self.inside.rows.items c.args.at
place c = subst (λ (t : Table). BelongsAt (order_at c.args.row.gate c.args.row.id) t.rows c.args.at) (sym c.self.view_is) c.requires.place

space : (c : After-expiry) → c.self.inside.rows.len < c.self.inside.rows.cap
space c = let free = room c in omega (arith, c.self.inside.rows.ok.0, c.self.invariant.1)

made : (c : After-insert-inserted) → c.self.inside.rows.len < c.self.inside.rows.cap
    → c.insert-inserted.new.self.items ≡ take c.args.at c.self.inside.rows.items ++ c.args.row ∷ drop c.args.at c.self.inside.rows.items
made c free = let fits : IsOk c.insert-inserted.result = c.insert-inserted.ensures.succeeds free in search rules

added : (c : After-insert-inserted) → c.self.inside.rows.len < c.self.inside.rows.cap
    → BelongsAt (order_at c.args.row.gate c.args.row.id) c.self.inside.rows.items c.args.at → c.args.row.gate.0 < c.self.inside.gates
    → length (filter (is_on c.args.row.gate) c.self.inside.rows.items) < 128
    → IsTable c.self.inside.gates c.insert-inserted.new.self.items c.add_entry.new.by_limit.items
    × IsWritten c.args.row c.self.inside.rows.items c.insert-inserted.new.self.items
added c free at' on less =
    let rows = c.self.inside.rows.items in
    let more = c.add_entry.new.by_limit.items in
    let with' : IsWith (expiry_of c.args.row) c.self.inside.by_limit.items more =
    subst (λ (e : Expiry). IsWith e c.self.inside.by_limit.items more) c.expiry.ensures c.add_entry.ensures.added in
    subst (λ (zs : List PeerRow). IsTable c.self.inside.gates zs more × IsWritten c.args.row rows zs) (sym (made c free))
    (row_added c.args.row c.args.at more c.self.invariant.0 at' on less with' c.add_entry.ensures.in_order)

pub add_entry-requires-clause-room : goal.add_entry-requires-clause-room
add_entry-requires-clause-room c =
    let free = room (goal.at.add_entry-requires-clause-room c).After-expiry in
    let same = lengths c.self.invariant.0 in
    omega (arith, c.self.inside.by_limit.ok.0, c.self.invariant.2)

pub counted_alone-gained-requires-clause-in_order : goal.counted_alone-gained-requires-clause-in_order
counted_alone-gained-requires-clause-in_order c =
    let it = (goal.at.counted_alone-gained-requires-clause-in_order c).After-expiry in
    (added (goal.at.counted_alone-gained-requires-clause-in_order c).After-insert-inserted (space it) (place it) (gate it) (few it)).0.in_order

pub counted_alone-gained-requires-clause-place : goal.counted_alone-gained-requires-clause-place
counted_alone-gained-requires-clause-place c =
    let it = (goal.at.counted_alone-gained-requires-clause-place c).After-expiry in
    let is = made (goal.at.counted_alone-gained-requires-clause-place c).After-insert-inserted (space it) in
    subst (λ (zs : List PeerRow). c.args.at < length zs) (sym is) (place_added c.self.inside.rows.items c.args.at c.args.row (place it).within)

pub kept_count-self-inside-requires-clause-known : goal.kept_count-self-inside-requires-clause-known
kept_count-self-inside-requires-clause-known c =
    let rows = c.self.inside.rows.items in
    let it = (goal.at.kept_count-self-inside-requires-clause-known c).After-expiry in
    let is = made (goal.at.kept_count-self-inside-requires-clause-known c).After-insert-inserted (space it) in
    let others : others_of c.args.at c.insert-inserted.new.self.items ≡ rows =
    ap (others_of c.args.at) is ∙ others_added rows c.args.at c.args.row (place it).within in
    number_added c.self.inside.watched c.self.inside.in_watched rows c.insert-inserted.new.self.items c.args.at c.counted_alone-gained.result
    c.self.invariant.4 others c.counted_alone-gained.ensures.others

pub invariant_of-self : goal.invariant_of-self
invariant_of-self c =
    let it = (goal.at.invariant_of-self c).After-expiry in
    let both = added (goal.at.invariant_of-self c).After-insert-inserted (space it) (place it) (gate it) (few it) in (
      both.0,
      (c.insert-inserted.ensures.in_place (space it)).1.0 ∙ c.self.invariant.1,
      c.add_entry.ensures.capacity ∙ c.self.invariant.2,
      c.self.invariant.3,
      c.kept_count-self-inside.ensures,
    )

pub returns-clause-written : goal.returns-clause-written
returns-clause-written c =
    let it = (goal.at.returns-clause-written c).After-expiry in
    let both = added (goal.at.returns-clause-written c).After-insert-inserted (space it) (place it) (gate it) (few it) in
    subst (λ (t : Table). IsWritten c.args.row t.rows c.insert-inserted.new.self.items) c.self.view_is both.1
