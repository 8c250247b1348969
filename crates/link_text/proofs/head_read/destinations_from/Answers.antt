use Rattle.std.proofs.Common.{arith, inr, length}
use Rattle.std.proofs.lemmas.Bool.Decides.{nat_tests}
use Rattle.link_text.proofs.PlaceLemmas.{counting_end}
use Rattle.link_text.proofs.HeadLemmas.{lacks_end}
use Rattle.link_text.proofs.head_read.destinations_from.Goals as goal
use Rattle.link_text.proofs.head_read.destinations_from.Goals.{then-loop-place-test+else-not-is_full, else-loop-place-test}

pub returns-clause-all : goal.returns-clause-all
returns-clause-all c =
    elim c.loop-place-test.branch [
      | then-loop-place-test+else-not-is_full w ↦ inr (grind (arith, nat_tests))
      | else-loop-place-test w ↦ lacks_end (length c.loop-place.destinations.items) _ (counting_end c.args.text.now c.loop-place.place.at (omega (arith, w.loop-place-test)))
    ]
