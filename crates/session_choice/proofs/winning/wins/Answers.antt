use Rattle.std.proofs.Common.{arith}
use Rattle.std.proofs.lemmas.Int.{to_z-of_z}
use Rattle.session_choice.specs.Winning.{wins_over}
use Rattle.session_choice.proofs.winning.wins.Goals as goal

pub returns : goal.returns
unfolding wins_over
returns c = grind (arith, to_z-of_z, c.wins_by.ensures, c.lead.ensures)
