use Rattle.std.proofs.lemmas.Bool.Decides.{Decides-eqb}
use Rattle.std.proofs.lemmas.Slice.Eq.{strip_prefix_is}
use Rattle.step_sequencer.proofs.PatternLemmas.{some_after, none_after}
use Rattle.step_sequencer.proofs.pattern.after.Goals as goal

pub returns-clause-some : goal.returns-clause-some
returns-clause-some c =
    let s = c.args.text.now in
    let p = c.args.prefix.now in
    let r = c.strip_prefix.result in
    some_after s p r (strip_prefix_is Decides-eqb s p r c.strip_prefix.ensures.cases)

pub returns-clause-none : goal.returns-clause-none
returns-clause-none c =
    let s = c.args.text.now in
    let p = c.args.prefix.now in
    let r = c.strip_prefix.result in
    none_after s p r (strip_prefix_is Decides-eqb s p r c.strip_prefix.ensures.cases)
