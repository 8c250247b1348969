use Rattle.std.proofs.Common.{◌≡◌, Bool, true, false, cond, ap, refl, ◌∙◌, arith}
use Rattle.std.specs.Int.{from_bool}
use Rattle.peer_gateway.specs.Answers.{is_in}
use Rattle.peer_gateway.proofs.AloneLemmas.{counts_alone}
use Rattle.peer_gateway.proofs.peers.counts.counted_alone.Goals as goal

as_number : (b : Bool) → from_bool b ≡ cond b 1 0
as_number true = refl
as_number false = refl

pub returns-then-is_alone-clause-others : goal.returns-then-is_alone-clause-others
returns-then-is_alone-clause-others c =
    let session = c.args.session.now in
    let row = c.index.result.now in
    let one : c.from.result ≡ cond (is_in session row) 1 0 =
    c.from.ensures ∙ ap from_bool c.is_same.ensures ∙ as_number (is_in session row) in
    let both = counts_alone session c.args.rows.now.items c.args.at row c.requires.in_order c.requires.place c.index.ensures (c.is_alone.ensures c.if-is_alone.true) in
    omega arith
