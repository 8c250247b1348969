use Rattle.std.proofs.Common.{arith}
use Rattle.std.proofs.lemmas.Int.{ints, to_z-of_z}
use Rattle.session_choice.specs.Winning.{lead_of}
use Rattle.session_choice.proofs.winning.lead.Goals as goal

pub returns : goal.returns
unfolding lead_of
returns c = grind (arith, ints, to_z-of_z, c.difference.ensures, c.to_ghost.ensures.value, c.to_ghost-2.ensures.value)
