use Rattle.std.proofs.Common.{◌+ℤ◌, ◌-ℤ◌, FitsSigned, rules, ap, arith}
use Rattle.std.proofs.lemmas.Int.{ints, to_z-of_z}
use mir.Syntax.{w64}
use Rattle.timeline_math.specs.Quantum.{next_match_of}
use Rattle.timeline_math.proofs.QuantumLemmas.{next_from, only_next}
use Rattle.timeline_math.proofs.quantum.next_match.Goals as goal

pub returns-clause-value : goal.returns-clause-value
unfolding next_match_of
returns-clause-value c =
    let rest : FitsSigned w64 c.rest_of.result = search rules in
    let gap : FitsSigned w64 (c.args.target -ℤ c.args.beat) = omega (arith, ints) in
    let sum : FitsSigned w64 (c.args.beat +ℤ c.rest_of.result) = omega (arith, ints) in
    let value = simp (to_z-of_z w64 _ c.ranges.beat, to_z-of_z w64 _ c.ranges.target, to_z-of_z w64 _ c.ranges.quantum, to_z-of_z w64 _ gap) at c.rest_of.ensures.value in
    simp (to_z-of_z w64 _ c.ranges.beat, to_z-of_z w64 _ rest, to_z-of_z w64 _ sum)
    (ap (λ p. c.args.beat +ℤ p) value)

pub returns-clause-next : goal.returns-clause-next
returns-clause-next c =
    next_from c.args.beat c.args.target c.args.quantum _ c.requires.quantum.0 (returns-clause-value c)

pub returns-clause-only : goal.returns-clause-only
returns-clause-only c = λ z isz.
    only_next c.args.beat c.args.target c.args.quantum _ z c.requires.quantum.0 (returns-clause-value c) isz
