use Rattle.std.proofs.Common.{rules, arith, subst}
use Rattle.std.proofs.lemmas.Int.{ints}
use Rattle.link_payload.specs.Entries.{AreBytes}
use Rattle.link_text.proofs.load.arrival.Goals as goal

pub returns-clause-fits : goal.returns-clause-fits
returns-clause-fits c = λ app audio. ((omega (arith, ints), omega (arith, ints)), (omega arith, subst AreBytes c.deref.ensures.0 c.are_bytes.ensures, search rules))
