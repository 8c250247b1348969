use Rattle.std.proofs.Common.{arith}
use Rattle.std.proofs.lemmas.Grind.{common_steps}
use Rattle.midi_clock.proofs.WordLemmas.{is_once, once_says}
use Rattle.midi_clock.proofs.words.option_in.Goals as goal

pub returns-in-Some-clause-some : goal.returns-in-Some-clause-some
returns-in-Some-clause-some c =
    once_says _ _ _ _ _ _ (is_once _ _ c.in-Some.ensures.some (grind (arith, common_steps))) c.number_in.ensures.some
