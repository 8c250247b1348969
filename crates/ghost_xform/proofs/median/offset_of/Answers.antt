use Rattle.std.proofs.Common.{◌+ℤ◌, FitsSigned, rules, ap, ◌∙◌, arith}
use Rattle.std.proofs.lemmas.Int.{ints, to_z-of_z}
use mir.Syntax.{w64, w128}
use Rattle.lk_base.specs.Rounding.{clipped_of}
use Rattle.ghost_xform.proofs.OffsetLemmas.{offset_from, offset_of-IsOffsetOf, offset_of-near}
use Rattle.ghost_xform.proofs.median.offset_of.Goals as goal

pub returns-clause-value : goal.returns-clause-value
returns-clause-value c =
    let lower = c.middle_pair-lower.result.0 in
    let upper = c.middle_pair-lower.result.1 in
    let fits : FitsSigned w64 c.clip.result = search rules in
    let near : FitsSigned w128 c.near.result = search rules in
    let low : FitsSigned w64 lower = search rules in
    let high : FitsSigned w64 upper = search rules in
    let low_too : FitsSigned w128 lower = omega (arith, ints) in
    let high_too : FitsSigned w128 upper = omega (arith, ints) in
    let sum : FitsSigned w128 (lower +ℤ upper) = omega (arith, ints) in
    let value = simp (to_z-of_z w128 _ near) at c.clip.ensures.value in
    let summed = simp (to_z-of_z w64 _ low, to_z-of_z w64 _ high, to_z-of_z w128 _ low_too, to_z-of_z w128 _ high_too) at c.near.ensures.value in
    let quotient = simp (to_z-of_z w128 _ sum) at summed in
    to_z-of_z w64 _ fits
    ∙ value
    ∙ ap clipped_of quotient
    ∙ offset_from c.args.points.now lower upper c.requires c.middle_pair-lower.ensures.lower c.middle_pair-lower.ensures.upper

pub returns-clause-offset : goal.returns-clause-offset
returns-clause-offset c = rw (returns-clause-value c) (offset_of-IsOffsetOf c.args.points.now c.requires)

pub returns-clause-near : goal.returns-clause-near
returns-clause-near c = λ offset r within all.
    rw (returns-clause-value c) (offset_of-near offset r c.args.points.now c.requires within all)
