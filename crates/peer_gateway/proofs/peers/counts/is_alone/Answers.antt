use Rattle.std.proofs.Common.{◌≡◌, ◌+◌, ◌-◌, ℕ, suc, get_or, subst, sym, ◌∙◌, arith}
use Rattle.std.proofs.lemmas.Bool.{false≢true, not-true}
use Rattle.peer_gateway.specs.declared.row.PeerRow.{PeerRow}
use Rattle.peer_gateway.proofs.AloneLemmas.{alone}
use Rattle.peer_gateway.proofs.KeyLemmas.{test_from_id}
use Rattle.peer_gateway.proofs.peers.counts.is_alone.Goals as goal
use Rattle.peer_gateway.proofs.peers.counts.is_alone.Goals.{then-at-gt0, else-at-gt0, then-at-len, else-at-len}

pub returns-then-not-is_after_same : goal.returns-then-not-is_after_same
returns-then-not-is_after_same c ok =
    let rows = c.args.rows.now.items in
    let i = c.args.at in
    let row = c.index.result.now in
    alone rows i row c.requires.in_order c.requires.place c.index.ensures
    (λ j e. elim c.if-at-gt0.branch as (λ _. (prior : PeerRow) × (prior ≡ get_or rows j prior) × (prior.id ≡ row.id → ⊥)) [
      | then-at-gt0 w ↦
          let prior = w.index-then-at-gt0.result.now in
          let place : i - 1 ≡ j = omega arith in (
            prior,
            subst (λ (n : ℕ). prior ≡ get_or rows n prior) place w.index-then-at-gt0.ensures,
            λ s. false≢true (sym c.if-not-is_after_same.true ∙ w.is_after_same-is ∙ w.is_same-is_after_same.ensures ∙ test_from_id prior.id row.id s),
          )
      | else-at-gt0 w ↦ absurd (omega arith)
    ])
    (λ l. elim c.if-at-len.branch as (λ _. (next : PeerRow) × (next ≡ get_or rows (suc i) next) × (next.id ≡ row.id → ⊥)) [
      | then-at-len w ↦
          let next = w.index-then-at-len.result.now in
          let place : i + 1 ≡ suc i = omega arith in (
            next,
            subst (λ (n : ℕ). next ≡ get_or rows n next) place w.index-then-at-len.ensures,
            λ s. false≢true
                (sym (not-true c.if-at-len.is_before_same ok) ∙ w.is_before_same-is ∙ w.is_same-is_before_same.ensures ∙ test_from_id next.id row.id s),
          )
      | else-at-len w ↦ absurd (omega (arith, c.len.ensures))
    ])
