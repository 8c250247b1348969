use Rattle.link_lines.proofs.LineWordLemmas.{first_of, only_one}
use Rattle.link_lines.proofs.words.first_word.Goals as goal

pub returns-in-Some : goal.returns-in-Some
returns-in-Some c = first_of c.args.line.now c.in-Some.word.now _ c.in-Some.ensures.some.0 c.in-Some.ensures.some.1

pub returns-in-None : goal.returns-in-None
returns-in-None c = only_one c.args.line.now c.in-None.ensures.none
