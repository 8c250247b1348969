use Rattle.std.proofs.Common.{FitsSigned, w64, int_le, sym, ap, ◌∙◌, rules}
use Rattle.std.proofs.lemmas.Int.{to_z-of_z}
use Rattle.link_hostfilter.specs.declared.pair.Pair.{Pair}
use Rattle.link_hostfilter.proofs.FarLemmas.{late_none, late_some}
use Rattle.link_hostfilter.proofs.far.is_late.Goals as goal

pub returns-then-is_empty : goal.returns-then-is_empty
returns-then-is_empty c = sym (late_none c.args.new.now c.args.pairs.now (search rules))

pub returns-else-is_empty : goal.returns-else-is_empty
returns-else-is_empty c =
    let new : FitsSigned w64 c.args.new.now.sample = search rules in
    let newest : FitsSigned w64 c.newest.result.sample = search rules in
    simp (to_z-of_z w64 _ new, to_z-of_z w64 _ newest)
    (ap (λ (p : Pair). int_le c.args.new.now.sample p.sample) c.newest.ensures ∙ sym (late_some c.args.new.now c.args.pairs.now (search rules)))
