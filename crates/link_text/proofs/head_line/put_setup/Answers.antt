use Rattle.std.proofs.Common.{rules, append_assoc, FitsSigned, w64}
use Rattle.std.proofs.lemmas.Int.{to_z-of_z}
use Rattle.link_text.proofs.head_line.put_setup.Goals as goal

pub returns-clause-items : goal.returns-clause-items
returns-clause-items c =
    let mpb : FitsSigned w64 c.args.config.now.mpb = search rules in
    rw (c.put_truth.ensures.items, c.put-2.ensures.items, c.put_signed.ensures.items, c.put.ensures.items, c.put_decimal.ensures.items)
    (simp append_assoc (simp (to_z-of_z w64 c.args.config.now.mpb mpb)))
