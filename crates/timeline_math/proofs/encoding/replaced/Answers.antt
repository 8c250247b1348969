use Rattle.std.proofs.Common.{◌+ℤ◌, ◌-ℤ◌, FitsSigned, rules, ◌∙◌, arith}
use Rattle.std.proofs.lemmas.Int.{ints, to_z-of_z}
use mir.Syntax.{w64, w128}
use Rattle.timeline_math.proofs.encoding.replaced.Goals as goal

pub returns-clause-value : goal.returns-clause-value
returns-clause-value c =
    let result : FitsSigned w64 c.clip.result = search rules in
    let less : FitsSigned w64 (c.args.beat -ℤ c.args.past) = omega (arith, ints) in
    let whole : FitsSigned w64 (c.args.beat -ℤ c.args.past +ℤ c.args.rest) = omega (arith, ints) in
    let wide : FitsSigned w128 (c.args.beat -ℤ c.args.past +ℤ c.args.rest) = omega (arith, ints) in
    let value = simp (to_z-of_z w64 _ c.ranges.beat, to_z-of_z w64 _ c.ranges.past, to_z-of_z w64 _ c.ranges.rest, to_z-of_z w64 _ less, to_z-of_z w64 _ whole, to_z-of_z w128 _ wide) at c.clip.ensures.value in
    to_z-of_z w64 _ result ∙ value
