use Rattle.std.proofs.Common.{◌-ℤ◌, FitsSigned, rules, ap, ◌∙◌, arith}
use Rattle.std.proofs.lemmas.Int.{ints, to_z-of_z}
use mir.Syntax.{w64}
use Rattle.timeline_math.specs.Quantum.{closest_match_of}
use Rattle.timeline_math.specs.Encoding.{encoded_beat}
use Rattle.timeline_math.proofs.EncodingLemmas.{encoded_beat-near, encoded_beat-phase}
use Rattle.timeline_math.proofs.encoding.encoded_beat.Goals as goal

pub returns-clause-value : goal.returns-clause-value
unfolding encoded_beat
returns-clause-value c =
    let tl = c.args.tl.now in
    let result : FitsSigned w64 c.closest_match.result = search rules in
    let beat : FitsSigned w64 c.beat_at-beat.result = search rules in
    let origin : FitsSigned w64 tl.beat = search rules in
    let gap : FitsSigned w64 (c.beat_at-beat.result -ℤ tl.beat) = omega (arith, ints) in
    let beat_is = simp (to_z-of_z w64 _ c.ranges.time) at c.beat_at-beat.ensures.value in
    let value = simp (to_z-of_z w64 _ beat, to_z-of_z w64 _ origin, to_z-of_z w64 _ c.ranges.quantum, to_z-of_z w64 _ gap) at c.closest_match.ensures.value in
    to_z-of_z w64 _ result
    ∙ value
    ∙ ap (λ b. closest_match_of b (b -ℤ tl.beat) c.args.quantum) beat_is

pub returns-clause-phase : goal.returns-clause-phase
returns-clause-phase c =
    rw (returns-clause-value c) (encoded_beat-phase c.args.tl.now c.args.time c.args.quantum c.requires.quantum.0)

pub returns-clause-near : goal.returns-clause-near
returns-clause-near c =
    rw (returns-clause-value c) (encoded_beat-near c.args.tl.now c.args.time c.args.quantum c.requires.quantum.0)

pub returns-clause-within : goal.returns-clause-within
returns-clause-within c = omega (arith, ints, c.closest_match.ensures.near)
