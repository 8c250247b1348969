use Rattle.std.proofs.Common.{pos, ◌<ℤ◌, FitsSigned, rules, sym, ◌∙◌, arith}
use Rattle.std.proofs.lemmas.Int.{ints, to_z-of_z}
use mir.Syntax.{w64}
use Rattle.timeline_math.proofs.QuantumLemmas.{phase_of-free, phase_of-rest}
use Rattle.timeline_math.proofs.quantum.rest_of.Goals as goal

pub returns-then-quantum-eq0-clause-value : goal.returns-then-quantum-eq0-clause-value
returns-then-quantum-eq0-clause-value c =
    sym (phase_of-free c.args.n c.args.quantum (omega (arith, ints)))

pub returns-else-quantum-eq0-clause-value : goal.returns-else-quantum-eq0-clause-value
returns-else-quantum-eq0-clause-value c =
    let fits : FitsSigned w64 c.rem_euclid.result = search rules in
    let positive : pos 0 <ℤ c.args.quantum = omega (arith, ints) in
    let rest = simp (to_z-of_z w64 _ c.ranges.n, to_z-of_z w64 _ c.ranges.quantum) at c.rem_euclid.ensures.value in
    to_z-of_z w64 _ fits ∙ rest ∙ sym (phase_of-rest c.args.n c.args.quantum positive)
