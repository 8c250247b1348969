use Rattle.std.proofs.Common.{rules, append_assoc, FitsSigned, w64}
use Rattle.std.proofs.lemmas.Int.{to_z-of_z}
use Rattle.link_lines.proofs.line.put_timeline.Goals as goal

pub returns-clause-items : goal.returns-clause-items
returns-clause-items c =
    let mpb : FitsSigned w64 c.args.timeline.mpb = search rules in
    let beat : FitsSigned w64 c.args.timeline.beat = search rules in
    let time : FitsSigned w64 c.args.timeline.time = search rules in
    rw (c.put_signed-3.ensures.items, c.put-2.ensures.items, c.put_signed-2.ensures.items, c.put.ensures.items, c.put_signed.ensures.items)
    (simp append_assoc (simp (to_z-of_z w64 c.args.timeline.mpb mpb, to_z-of_z w64 c.args.timeline.beat beat, to_z-of_z w64 c.args.timeline.time time)))
