use Rattle.std.proofs.Common.{append_assoc, w64}
use Rattle.std.proofs.lemmas.Int.{to_z-of_z}
use Rattle.link_asks.proofs.answer.put_now.Goals as goal

pub returns : goal.returns
returns c =
    rw (c.put-4.ensures.items, c.put_signed-3.ensures.items, c.put-3.ensures.items, c.put_signed-2.ensures.items, c.put-2.ensures.items, c.put_signed.ensures.items, c.put.ensures.items, c.requires)
    (simp append_assoc (simp (to_z-of_z w64 c.args.at c.ranges.at, to_z-of_z w64 c.args.beat c.ranges.beat, to_z-of_z w64 c.args.phase c.ranges.phase)))
