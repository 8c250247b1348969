use Rattle.std.proofs.Common.{◌≡◌, ◌∙◌, ℕ, ℤ, length, filter, not, sym, subst, ap, List, w64}
use mir.Val.{to_z, of_z}
use Rattle.std.proofs.lemmas.Int.{to_z-of_z}
use Rattle.peer_gateway.specs.Happenings.{lives}
use Rattle.peer_gateway.specs.Table.{Table}
use Rattle.peer_gateway.specs.declared.row.PeerRow.{PeerRow}
use Rattle.peer_gateway.proofs.AnswerLemmas.{how_many_ended, all_stay}
use Rattle.peer_gateway.proofs.LifeLemmas.{stands_pruning}
use Rattle.peer_gateway.proofs.peers.Peers.prune.Goals as goal

pub returns-clause-answer : goal.returns-clause-answer
returns-clause-answer c life stands =
    let back : to_z w64 (of_z w64 c.args.now) ≡ c.args.now = to_z-of_z w64 c.args.now c.ranges.now in
    let ended : c.end_rows.result ≡ length (filter (λ row. not (lives c.args.now row)) c.args.self.now.rows) =
    subst (λ (m : ℤ). c.end_rows.result ≡ length (filter (λ row. not (lives m row)) c.args.self.now.rows)) back c.end_rows.ensures.ended in
    ended ∙ how_many_ended c.args.now c.args.self.now life c.end_rows.ensures.in_order stands

pub returns-clause-stands : goal.returns-clause-stands
returns-clause-stands c life stands =
    let back : to_z w64 (of_z w64 c.args.now) ≡ c.args.now = to_z-of_z w64 c.args.now c.ranges.now in
    stands_pruning c.args.now c.args.self.now c.end_rows.new.self life stands
    (subst (λ (m : ℤ). c.end_rows.new.self.rows ≡ filter (lives m) c.args.self.now.rows) back c.end_rows.ensures.rows)

pub returns-clause-unchanged : goal.returns-clause-unchanged
returns-clause-unchanged c none =
    let table : ℕ → List PeerRow → Table = λ gates rows. record { gates = gates; rows = rows } in
    ap (λ (gates : ℕ). table gates c.end_rows.new.self.rows) c.end_rows.ensures.gates
    ∙ ap (table c.args.self.now.gates)
    (c.end_rows.ensures.rows ∙ all_stay _ c.args.self.now.rows (sym c.end_rows.ensures.ended ∙ none))
