use Rattle.std.proofs.Common.{pos, ◌-ℤ◌, FitsSigned, rules, ap, ◌∙◌, arith}
use Rattle.std.proofs.lemmas.Int.{ints, to_z-of_z}
use mir.Syntax.{w64}
use Rattle.lk_base.specs.Rounding.{nearest_of}
use Rattle.timeline_math.specs.Quantum.{closest_match_of, next_match_of}
use Rattle.timeline_math.proofs.QuantumLemmas.{closest_match_of-near, next_from}
use Rattle.timeline_math.proofs.quantum.closest_match.Goals as goal

pub returns-clause-value : goal.returns-clause-value
unfolding closest_match_of
returns-clause-value c =
    let result : FitsSigned w64 c.next_match.result = search rules in
    let half : FitsSigned w64 c.half_of.result = search rules in
    let from : FitsSigned w64 (c.args.beat -ℤ c.half_of.result) = omega (arith, ints) in
    let half_is = simp (to_z-of_z w64 _ c.ranges.quantum) at c.half_of.ensures.value in
    let value = simp (to_z-of_z w64 _ c.ranges.beat, to_z-of_z w64 _ c.ranges.target, to_z-of_z w64 _ c.ranges.quantum, to_z-of_z w64 _ half, to_z-of_z w64 _ from) at c.next_match.ensures.value in
    to_z-of_z w64 _ result
    ∙ value
    ∙ ap (λ h. next_match_of (c.args.beat -ℤ h) c.args.target c.args.quantum) half_is

pub returns-clause-next : goal.returns-clause-next
unfolding closest_match_of
returns-clause-next c =
    next_from (c.args.beat -ℤ nearest_of c.args.quantum (pos 2)) c.args.target c.args.quantum _ c.requires.quantum.0 (returns-clause-value c)

pub returns-clause-near : goal.returns-clause-near
returns-clause-near c =
    rw (returns-clause-value c) (closest_match_of-near c.args.beat c.args.target c.args.quantum c.requires.quantum.0)
