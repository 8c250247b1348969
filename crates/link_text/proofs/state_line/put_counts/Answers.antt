use Rattle.std.proofs.Common.{rules, append_assoc, FitsSigned, w64}
use Rattle.std.proofs.lemmas.Int.{to_z-of_z}
use Rattle.link_text.proofs.state_line.put_counts.Goals as goal

pub returns-clause-items : goal.returns-clause-items
returns-clause-items c =
    let moment : FitsSigned w64 c.args.state.now.moment = search rules in
    rw (c.put_decimal-3.ensures.items, c.put-4.ensures.items, c.put_decimal-2.ensures.items, c.put-3.ensures.items, c.put_signed.ensures.items, c.put-2.ensures.items, c.put_decimal.ensures.items, c.put.ensures.items, c.put_truth.ensures.items)
    (simp append_assoc (simp (c.from.ensures, to_z-of_z w64 c.args.state.now.moment moment)))
