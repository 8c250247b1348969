use Rattle.std.proofs.Common.{◌-ℤ◌, FitsSigned, rules, ◌∙◌, arith}
use Rattle.std.proofs.lemmas.Int.{ints, to_z-of_z}
use mir.Syntax.{w64}
use Rattle.timeline_math.proofs.EncodingLemmas.{encoded_time-from}
use Rattle.timeline_math.proofs.encoding.encoded_time.Goals as goal

pub replaced-requires-clause-rest : goal.replaced-requires-clause-rest
replaced-requires-clause-rest c = omega (arith, ints, c.closest_match-inside.ensures.near)

pub returns-clause-value : goal.returns-clause-value
returns-clause-value c =
    let tl = c.args.tl.now in
    let x = c.args.beat in
    let q = c.args.quantum in
    let result : FitsSigned w64 c.time_at.result = search rules in
    let origin : FitsSigned w64 tl.beat = search rules in
    let past : FitsSigned w64 c.phase-past.result = search rules in
    let here : FitsSigned w64 c.phase.result = search rules in
    let inside : FitsSigned w64 c.closest_match-inside.result = search rules in
    let whole : FitsSigned w64 c.replaced.result = search rules in
    let from : FitsSigned w64 (x -ℤ tl.beat) = omega (arith, ints) in
    let left : FitsSigned w64 (q -ℤ c.phase-past.result) = omega (arith, ints) in
    let wanted : FitsSigned w64 (q -ℤ c.phase.result) = omega (arith, ints) in
    let rest : FitsSigned w64 (q -ℤ c.closest_match-inside.result) = omega (arith, ints) in
    let past_is = simp (to_z-of_z w64 _ c.ranges.beat, to_z-of_z w64 _ c.ranges.quantum, to_z-of_z w64 _ origin, to_z-of_z w64 _ from) at c.phase-past.ensures.value in
    let here_is = simp (to_z-of_z w64 _ c.ranges.beat, to_z-of_z w64 _ c.ranges.quantum) at c.phase.ensures.value in
    let inside_is = simp (to_z-of_z w64 _ c.ranges.quantum, to_z-of_z w64 _ past, to_z-of_z w64 _ here, to_z-of_z w64 _ left, to_z-of_z w64 _ wanted) at c.closest_match-inside.ensures.value in
    let whole_is = simp (to_z-of_z w64 _ c.ranges.beat, to_z-of_z w64 _ c.ranges.quantum, to_z-of_z w64 _ past, to_z-of_z w64 _ inside, to_z-of_z w64 _ rest) at c.replaced.ensures.value in
    let time_is = simp (to_z-of_z w64 _ whole) at c.time_at.ensures.value in
    encoded_time-from tl x q c.phase-past.result c.phase.result c.closest_match-inside.result c.replaced.result _ past_is here_is inside_is whole_is (to_z-of_z w64 _ result ∙ time_is)
