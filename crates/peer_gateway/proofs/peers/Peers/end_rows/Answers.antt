use Rattle.std.proofs.Common.{◌≡◌, ◌≤ℤ◌, ◌<ℤ◌, ◌∙◌, ℕ, ℤ, List, length, not, filter, take, drop, subst, sym, ap, rules, arith, w64}
use mir.Val.{to_z, of_z}
use Rattle.std.proofs.lemmas.Fn.{filter_same}
use Rattle.std.proofs.lemmas.Int.{to_z-of_z}
use Rattle.peer_gateway.specs.Happenings.{Has, lives}
use Rattle.peer_gateway.specs.Order.{IsTable}
use Rattle.peer_gateway.specs.Table.{Table}
use Rattle.peer_gateway.specs.declared.expiry.Expiry.{Expiry}
use Rattle.peer_gateway.specs.declared.row.PeerRow.{PeerRow}
use Rattle.peer_gateway.proofs.TableLemmas.{rows_ended, count_ended, none_ended}
use Rattle.peer_gateway.proofs.peers.Peers.end_rows.Goals as goal
use Rattle.peer_gateway.proofs.peers.Peers.end_rows.Goals.{then-ended-gt0, else-ended-gt0, After-ended_at-ended}

back : (c : After-ended_at-ended) → to_z w64 (of_z w64 c.args.now) ≡ c.args.now
back c = to_z-of_z w64 c.args.now c.ranges.now

left : (c : After-ended_at-ended) → (e : Expiry) → Has (drop c.ended_at-ended.result c.self.inside.by_limit.items) e → c.args.now <ℤ e.limit
left c =
    subst (λ (m : ℤ). (e : Expiry) → Has (drop c.ended_at-ended.result c.self.inside.by_limit.items) e → m <ℤ e.limit) (back c)
    c.ended_at-ended.ensures.left

after : (c : After-ended_at-ended) → IsTable c.self.inside.gates (filter (lives c.args.now) c.self.inside.rows.items)
    (drop c.ended_at-ended.result c.self.inside.by_limit.items)
after c =
    let n = c.ended_at-ended.result in
    let limits = c.self.inside.by_limit.items in
    let ended : (e : Expiry) → Has (take n limits) e → e.limit ≤ℤ c.args.now =
    subst (λ (m : ℤ). (e : Expiry) → Has (take n limits) e → e.limit ≤ℤ m) (back c) c.ended_at-ended.ensures.ended in
    rows_ended c.args.now n c.self.invariant.0 ended (left c)

pub invariant_of-self : goal.invariant_of-self
invariant_of-self c =
    let gates = c.self.inside.gates in
    let rows = c.self.inside.rows.items in
    let kept : c.retain.new.self.items ≡ filter (lives c.args.now) rows =
    filter_same _ _ _ (λ x b f' k. search rules) _ _ c.retain.ensures.filtered in (
      subst (λ (zs : List PeerRow). IsTable gates zs c.end_front.new.by_limit.items) (sym kept)
          (subst (λ (es : List Expiry). IsTable gates (filter (lives c.args.now) rows) es) (sym c.end_front.ensures.items)
          (after (goal.at.invariant_of-self c).After-ended_at-ended)),
      c.retain.ensures.capacity ∙ c.self.invariant.1,
      c.end_front.ensures.capacity ∙ c.self.invariant.2,
      c.self.invariant.3,
      c.ids_in-self-inside.ensures,
    )

pub returns-clause-rows : goal.returns-clause-rows
returns-clause-rows c =
    let rows = c.self.inside.rows.items in
    let its : filter (lives c.args.now) rows ≡ filter (lives c.args.now) c.args.self.now.rows =
    ap (λ (t : Table). filter (lives c.args.now) t.rows) c.self.view_is in
    elim c.if-ended-gt0.branch as (λ _. c.if-ended-gt0.self.rows ≡ filter (lives c.args.now) c.args.self.now.rows) [
      | then-ended-gt0 w ↦
          let kept : w.retain.new.self.items ≡ filter (lives c.args.now) rows =
          filter_same _ _ _ (λ x b f' k. search rules) _ _ w.retain.ensures.filtered in
          ap (λ (t : Table). t.rows) w.self-is ∙ kept ∙ its
      | else-ended-gt0 w ↦
          let zero : c.ended_at-ended.result ≡ 0 = omega arith in
          let all : (e : Expiry) → Has c.self.inside.by_limit.items e → c.args.now <ℤ e.limit =
          subst (λ (n : ℕ). (e : Expiry) → Has (drop n c.self.inside.by_limit.items) e → c.args.now <ℤ e.limit) zero
          (left (goal.at.returns-clause-rows c).After-ended_at-ended) in
          ap (λ (t : Table). t.rows) (w.self-is ∙ sym c.self.view_is) ∙ sym (none_ended c.args.now c.self.invariant.0 all) ∙ its
    ]

pub returns-clause-ended : goal.returns-clause-ended
returns-clause-ended c =
    subst (λ (t : Table). c.ended_at-ended.result ≡ length (filter (λ row. not (lives c.args.now row)) t.rows)) c.self.view_is
    (count_ended c.args.now c.ended_at-ended.result c.self.invariant.0 c.ended_at-ended.ensures.within
    (after (goal.at.returns-clause-ended c).After-ended_at-ended))
