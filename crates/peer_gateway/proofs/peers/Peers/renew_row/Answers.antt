use Rattle.std.proofs.Common.{◌≡◌, ◌<◌, ◌*◌, None, length, set, subst, sym, ap, ◌∙◌, arith}
use Rattle.peer_gateway.specs.Expiry.{expiry_of}
use Rattle.peer_gateway.specs.Order.{order_at, IsAt, IsTable, IsWith, IsWithout, IsWritten}
use Rattle.peer_gateway.specs.Table.{Table}
use Rattle.peer_gateway.specs.declared.expiry.Expiry.{Expiry}
use Rattle.peer_gateway.proofs.AloneLemmas.{same_counted, number_renewed}
use Rattle.peer_gateway.proofs.KeyLemmas.{id_from_test, key_from_test}
use Rattle.peer_gateway.proofs.TableLemmas.{row_renewed, read_found, shorter}
use Rattle.peer_gateway.proofs.peers.Peers.renew_row.Goals as goal
use Rattle.peer_gateway.proofs.peers.Peers.renew_row.Goals.{After-end_entry, After-add_entry}

place : (c : After-end_entry) → IsAt (order_at c.args.row.gate c.args.row.id) c.self.inside.rows.items c.args.at
place c = subst (λ (t : Table). IsAt (order_at c.args.row.gate c.args.row.id) t.rows c.args.at) (sym c.self.view_is) c.requires

without : (c : After-end_entry) → IsWithout (expiry_of c.index.result.now) c.self.inside.by_limit.items c.end_entry.new.by_limit.items
without c =
    subst (λ (e : Expiry). IsWithout e c.self.inside.by_limit.items c.end_entry.new.by_limit.items) c.expiry.ensures c.end_entry.ensures.ended

renewed : (c : After-add_entry) → IsAt (order_at c.args.row.gate c.args.row.id) c.self.inside.rows.items c.args.at
    → IsWithout (expiry_of c.index.result.now) c.self.inside.by_limit.items c.end_entry.new.by_limit.items
    → IsTable c.self.inside.gates (set c.self.inside.rows.items c.args.at c.args.row) c.add_entry.new.by_limit.items
    × IsWritten c.args.row c.self.inside.rows.items (set c.self.inside.rows.items c.args.at c.args.row)
renewed c at' without' =
    let less = c.end_entry.new.by_limit.items in
    let more = c.add_entry.new.by_limit.items in
    let with' : IsWith (expiry_of c.args.row) less more =
    subst (λ (e : Expiry). IsWith e less more) c.expiry-2.ensures c.add_entry.ensures.added in
    row_renewed c.args.row c.args.at c.index.result.now less more c.self.invariant.0 at' c.index.ensures without' with' c.add_entry.ensures.in_order

pub add_entry-requires-clause-room : goal.add_entry-requires-clause-room
add_entry-requires-clause-room c =
    let it = (goal.at.add_entry-requires-clause-room c).After-end_entry in
    let few : length c.end_entry.new.by_limit.items < 128 * c.self.inside.gates =
    shorter c.args.at c.index.result.now c.end_entry.new.by_limit.items c.self.invariant.0 (place it).within c.index.ensures (without it)
    c.end_entry.ensures.in_order in
    omega (arith, c.end_entry.new.by_limit.ok.0, c.end_entry.ensures.capacity, c.self.invariant.2)

pub counted_alone-gained-requires-clause-in_order : goal.counted_alone-gained-requires-clause-in_order
counted_alone-gained-requires-clause-in_order c =
    let it = (goal.at.counted_alone-gained-requires-clause-in_order c).After-end_entry in
    (renewed (goal.at.counted_alone-gained-requires-clause-in_order c).After-add_entry (place it) (without it)).0.in_order

pub kept_count-self-inside-requires-clause-known : goal.kept_count-self-inside-requires-clause-known
kept_count-self-inside-requires-clause-known c =
    number_renewed c.self.inside.watched c.self.inside.in_watched c.self.inside.rows.items c.args.at c.args.row c.counted_alone-lost.result
    c.counted_alone-gained.result c.self.invariant.4 c.counted_alone-lost.ensures.others c.counted_alone-gained.ensures.others

pub invariant_of-self : goal.invariant_of-self
invariant_of-self c =
    let it = (goal.at.invariant_of-self c).After-end_entry in
    let both = renewed (goal.at.invariant_of-self c).After-add_entry (place it) (without it) in (
      both.0,
      c.self.invariant.1,
      c.add_entry.ensures.capacity ∙ c.end_entry.ensures.capacity ∙ c.self.invariant.2,
      c.self.invariant.3,
      c.kept_count-self-inside.ensures,
    )

pub invariant_of-self-else-not-is_same : goal.invariant_of-self-else-not-is_same
invariant_of-self-else-not-is_same c =
    let it = (goal.at.invariant_of-self-else-not-is_same c).After-end_entry in
    let both = renewed (goal.at.invariant_of-self-else-not-is_same c).After-add_entry (place it) (without it) in
    let rows = c.self.inside.rows.items in
    let row = c.args.row in
    let old = c.index.result.now in
    let ids : old.id ≡ row.id =
    (key_from_test row.gate row.id old (read_found rows row.gate row.id c.args.at old (place it) c.index.ensures)).1 in
    let sessions : old.session ≡ row.session = id_from_test old.session row.session (sym c.is_same.ensures ∙ c.if-not-is_same.false) in (
      both.0,
      c.self.invariant.1,
      c.add_entry.ensures.capacity ∙ c.end_entry.ensures.capacity ∙ c.self.invariant.2,
      c.self.invariant.3,
      c.self.invariant.4 ∙ sym (ap length (same_counted c.self.inside.watched None rows c.args.at old row c.index.ensures ids sessions)),
    )

pub returns-then-not-is_same-clause-written : goal.returns-then-not-is_same-clause-written
returns-then-not-is_same-clause-written c =
    let it = (goal.at.returns-then-not-is_same-clause-written c).After-end_entry in
    let both = renewed (goal.at.returns-then-not-is_same-clause-written c).After-add_entry (place it) (without it) in
    subst (λ (t : Table). IsWritten c.args.row t.rows (set c.self.inside.rows.items c.args.at c.args.row)) c.self.view_is both.1

pub returns-else-not-is_same-clause-written : goal.returns-else-not-is_same-clause-written
returns-else-not-is_same-clause-written c =
    let it = (goal.at.returns-else-not-is_same-clause-written c).After-end_entry in
    let both = renewed (goal.at.returns-else-not-is_same-clause-written c).After-add_entry (place it) (without it) in
    subst (λ (t : Table). IsWritten c.args.row t.rows (set c.self.inside.rows.items c.args.at c.args.row)) c.self.view_is both.1
