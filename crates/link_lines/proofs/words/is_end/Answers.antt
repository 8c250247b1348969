use Rattle.std.proofs.Common.{arith, ap, length}
use Rattle.std.proofs.lemmas.List.{nil_from_length}
use Rattle.std.proofs.lemmas.Bool.Decides.{nat_tests}
use Rattle.link_lines.specs.LineWords.{words_left}
use Rattle.link_lines.proofs.LineWordLemmas.{none_left}
use Rattle.link_lines.proofs.words.is_end.Goals as goal

pub returns : goal.returns
returns c = (
  λ empty. ap words_left (nil_from_length c.args.left.now (grind (arith, nat_tests))),
  λ none. let e = ap (length) (none_left c.args.left.now none) in grind (arith, nat_tests),
)
