use Rattle.std.proofs.Common.{rules, append_assoc, FitsSigned, w64}
use Rattle.std.proofs.lemmas.Int.{to_z-of_z}
use Rattle.link_text.proofs.reading_line.put_pong.Goals as goal

pub returns : goal.returns
returns c =
    let ghost_time : FitsSigned w64 c.args.fields.ghost_time = search rules in
    let host : FitsSigned w64 c.args.fields.host = search rules in
    let previous : FitsSigned w64 c.args.fields.previous = search rules in
    rw (c.put-4.ensures.items, c.put_signed-3.ensures.items, c.put-3.ensures.items, c.put_signed-2.ensures.items, c.put-2.ensures.items, c.put_signed.ensures.items, c.put.ensures.items, c.put_id.ensures.items)
    (simp append_assoc (simp (to_z-of_z w64 c.args.fields.ghost_time ghost_time, to_z-of_z w64 c.args.fields.host host, to_z-of_z w64 c.args.fields.previous previous)))
