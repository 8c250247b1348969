use Rattle.std.proofs.Common.{FitsSigned, rules, ◌∙◌}
use Rattle.std.proofs.lemmas.Int.{to_z-of_z}
use mir.Syntax.{w64}
use Rattle.timeline_math.proofs.QuantumLemmas.{phase_from, only_phase}
use Rattle.timeline_math.proofs.quantum.phase.Goals as goal

pub returns-clause-value : goal.returns-clause-value
returns-clause-value c =
    let rest : FitsSigned w64 c.rest_of.result = search rules in
    let value = simp (to_z-of_z w64 _ c.ranges.beat, to_z-of_z w64 _ c.ranges.quantum) at c.rest_of.ensures.value in
    to_z-of_z w64 _ rest ∙ value

pub returns-clause-phase : goal.returns-clause-phase
returns-clause-phase c =
    phase_from c.args.beat c.args.quantum _ c.requires.quantum.0 (returns-clause-value c)

pub returns-clause-only : goal.returns-clause-only
returns-clause-only c = λ p isp.
    only_phase c.args.beat c.args.quantum _ p c.requires.quantum.0 (returns-clause-value c) isp
