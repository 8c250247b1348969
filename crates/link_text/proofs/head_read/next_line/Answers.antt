use Rattle.std.proofs.Common.{arith}
use Rattle.link_text.proofs.PlaceLemmas.{counting_end}
use Rattle.link_text.proofs.head_read.next_line.Goals as goal

pub returns-then-place-text-clause-none : goal.returns-then-place-text-clause-none
returns-then-place-text-clause-none c = counting_end c.args.text.now c.args.place.at (omega (arith, c.if-place-text.true))
