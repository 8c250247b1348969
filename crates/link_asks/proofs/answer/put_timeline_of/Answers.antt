use Rattle.std.proofs.Common.{rules, append_assoc, FitsSigned, w64}
use Rattle.std.proofs.lemmas.Int.{to_z-of_z}
use Rattle.link_asks.proofs.answer.put_timeline_of.Goals as goal

pub returns-clause-items : goal.returns-clause-items
returns-clause-items c =
    let view = c.args.view.now in
    let mpb : FitsSigned w64 c.args.view.now.mpb = search rules in
    let beat : FitsSigned w64 c.args.view.now.beat = search rules in
    let time : FitsSigned w64 c.args.view.now.time = search rules in
    rw (c.put_signed-3.ensures.items, c.put-2.ensures.items, c.put_signed-2.ensures.items, c.put.ensures.items, c.put_signed.ensures.items)
    (simp append_assoc (simp (to_z-of_z w64 c.args.view.now.mpb mpb, to_z-of_z w64 c.args.view.now.beat beat, to_z-of_z w64 c.args.view.now.time time)))
