use Rattle.std.proofs.Common.{List, subst, sym, ◌∙◌}
use Rattle.peer_gateway.specs.Expiry.{expiry_of}
use Rattle.peer_gateway.specs.Order.{order_at, IsAt, IsTable, IsEnded, IsWithout}
use Rattle.peer_gateway.specs.Picks.{others_of}
use Rattle.peer_gateway.specs.Table.{Table}
use Rattle.peer_gateway.specs.declared.expiry.Expiry.{Expiry}
use Rattle.peer_gateway.specs.declared.row.PeerRow.{PeerRow}
use Rattle.peer_gateway.proofs.TableLemmas.{row_ended}
use Rattle.peer_gateway.proofs.peers.Peers.end_row.Goals as goal
use Rattle.peer_gateway.proofs.peers.Peers.end_row.Goals.{After-end_entry}

ended : (c : After-end_entry) → IsTable c.self.inside.gates (others_of c.args.at c.self.inside.rows.items) c.end_entry.new.by_limit.items
    × IsEnded c.args.gate c.args.id.now c.self.inside.rows.items (others_of c.args.at c.self.inside.rows.items)
ended c =
    let limits = c.self.inside.by_limit.items in
    let less = c.end_entry.new.by_limit.items in
    let place : IsAt (order_at c.args.gate c.args.id.now) c.self.inside.rows.items c.args.at =
    subst (λ (t : Table). IsAt (order_at c.args.gate c.args.id.now) t.rows c.args.at) (sym c.self.view_is) c.requires in
    let without : IsWithout (expiry_of c.index.result.now) limits less =
    subst (λ (e : Expiry). IsWithout e limits less) c.expiry.ensures c.end_entry.ensures.ended in
    row_ended c.args.gate c.args.id.now c.args.at c.index.result.now less c.self.invariant.0 place c.index.ensures without
    c.end_entry.ensures.in_order

pub invariant_of-self : goal.invariant_of-self
invariant_of-self c =
    let both = ended (goal.at.invariant_of-self c).After-end_entry in (
      subst (λ (zs : List PeerRow). IsTable c.self.inside.gates zs c.end_entry.new.by_limit.items) (sym c.remove-ended.ensures.items) both.0,
      c.remove-ended.ensures.capacity ∙ c.self.invariant.1,
      c.end_entry.ensures.capacity ∙ c.self.invariant.2,
      c.self.invariant.3,
      c.kept_count-self-inside.ensures,
    )

pub returns-clause-ended : goal.returns-clause-ended
returns-clause-ended c =
    let both = ended (goal.at.returns-clause-ended c).After-end_entry in
    subst (λ (t : Table). IsEnded c.args.gate c.args.id.now t.rows c.remove-ended.new.self.items) c.self.view_is
    (subst (λ (zs : List PeerRow). IsEnded c.args.gate c.args.id.now c.self.inside.rows.items zs) (sym c.remove-ended.ensures.items) both.1)
