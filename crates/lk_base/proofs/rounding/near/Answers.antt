use Rattle.std.proofs.Common.{FitsSigned, rules, ◌∙◌}
use Rattle.std.proofs.lemmas.Int.{to_z-of_z}
use mir.Syntax.{w128}
use Rattle.lk_base.specs.Rounding.{nearest_of}
use Rattle.lk_base.proofs.RoundingLemmas.{nearest_from, only_from}
use Rattle.lk_base.proofs.rounding.near.Goals as goal

pub returns-clause-value : goal.returns-clause-value
unfolding nearest_of
returns-clause-value c =
    let fits : FitsSigned w128 c.with_sign_of.result = search rules in
    let sign = simp (to_z-of_z w128 _ c.ranges.n) at c.with_sign_of.ensures in
    let n = simp (to_z-of_z w128 _ c.ranges.n) at c.unsigned_abs.ensures.value in
    let d = simp (to_z-of_z w128 _ c.ranges.d) at c.unsigned_abs-2.ensures.value in
    let rounds = c.rounded.ensures.value in
    to_z-of_z w128 _ fits ∙ (cc)

pub returns-clause-nearest : goal.returns-clause-nearest
returns-clause-nearest c =
    nearest_from c.args.n c.args.d _ c.requires.positive (returns-clause-value c)

pub returns-clause-only : goal.returns-clause-only
returns-clause-only c =
    λ q isq. only_from c.args.n c.args.d _ q c.requires.positive (returns-clause-value c) isq
