use Rattle.std.proofs.lemmas.Bool.Decides.{Decides-eqb}
use Rattle.std.proofs.lemmas.Slice.Eq.{strip_prefix_is}
use Rattle.link_lines.proofs.WordLemmas.{some_stripped, none_stripped}
use Rattle.link_lines.proofs.word.after.Goals as goal

pub returns-clause-some : goal.returns-clause-some
returns-clause-some c =
    let s = c.args.bytes.now in
    let p = c.args.prefix.now in
    let r = c.strip_prefix.result in
    some_stripped s p r (strip_prefix_is Decides-eqb s p r c.strip_prefix.ensures.cases)

pub returns-clause-none : goal.returns-clause-none
returns-clause-none c =
    let s = c.args.bytes.now in
    let p = c.args.prefix.now in
    let r = c.strip_prefix.result in
    none_stripped s p r (strip_prefix_is Decides-eqb s p r c.strip_prefix.ensures.cases)
