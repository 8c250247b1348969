use Rattle.std.proofs.Common.{FitsSigned, rules, ◌∙◌}
use Rattle.std.proofs.lemmas.Int.{to_z-of_z}
use mir.Syntax.{w64}
use Rattle.timeline_math.proofs.BeatLemmas.{nearest_of-from}
use Rattle.timeline_math.proofs.beats.near_short.Goals as goal

pub returns-clause-value : goal.returns-clause-value
returns-clause-value c =
    let result : FitsSigned w64 c.with_sign_of.result = search rules in
    let magnitude = simp (to_z-of_z w64 _ c.ranges.n) at c.unsigned_abs.ensures.value in
    let rounds = simp (to_z-of_z w64 _ c.ranges.by, to_z-of_z w64 _ c.ranges.per) at c.rounded.ensures.value in
    let signed = simp (to_z-of_z w64 _ c.ranges.n) at c.with_sign_of.ensures.value in
    to_z-of_z w64 _ result
    ∙ nearest_of-from c.args.n c.args.by c.args.per _ c.unsigned_abs.result c.rounded.result c.requires.by.0 magnitude rounds signed
