use Rattle.std.proofs.Common.{FitsSigned, ◌+ℤ◌, rules, arith, ap, ◌∙◌}
use Rattle.std.proofs.lemmas.Int.{ints, to_z-of_z}
use mir.Syntax.{w16, w32}
use Rattle.step_sequencer.specs.Sound.{level_of}
use Rattle.step_sequencer.proofs.SoundLemmas.{ages_of, level_is}
use Rattle.step_sequencer.proofs.kit.Kit.level.Goals as goal

pub returns : goal.returns
returns c =
    let inside = ages_of c.self.inside.kick c.self.inside.snare c.self.inside.hat in
    let k = c.kick_level.result in
    let s = c.snare_level.result in
    let h = c.hat_level.result in
    let kick : FitsSigned w32 k = search rules in
    let snare : FitsSigned w32 s = search rules in
    let hat : FitsSigned w32 h = search rules in
    let both : FitsSigned w32 (k +ℤ s) = omega (arith, ints) in
    let all : FitsSigned w32 (k +ℤ s +ℤ h) = omega (arith, ints) in
    let short : FitsSigned w16 (k +ℤ s +ℤ h) = omega (arith, ints) in
    simp (to_z-of_z w32 _ kick, to_z-of_z w32 _ snare, to_z-of_z w32 _ hat, to_z-of_z w32 _ both, to_z-of_z w32 _ all, to_z-of_z w16 _ short)
    (level_is inside k s h c.kick_level.ensures.value c.snare_level.ensures.value c.hat_level.ensures.value ∙ ap level_of c.self.view_is)
