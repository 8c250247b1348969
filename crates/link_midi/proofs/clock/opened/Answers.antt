use Rattle.std.proofs.Common.{FitsSigned, rules, pos, ◌-ℤ◌, arith}
use Rattle.std.proofs.lemmas.Int.{ints, to_z-of_z}
use mir.Syntax.{w64}
use Rattle.std.proofs.Common.{ap, ◌∙◌, cond, [], ◌∷◌, Bool}
use Rattle.link_midi.specs.Events.{event}
use Rattle.link_midi.specs.declared.message.MidiMessage.TheVariants.{Stop}
use Rattle.link_midi.proofs.ProgressLemmas.{has_opened}
use Rattle.link_midi.proofs.clock.opened.Goals as goal

pub returns : goal.returns
returns c =
    let pulse : FitsSigned w64 c.pulse_at.result = search rules in
    let before : FitsSigned w64 (c.args.start -ℤ pos 1) = omega (arith, ints) in
    let now = simp (to_z-of_z w64 _ c.ranges.start, to_z-of_z w64 _ before) at c.pulse_at.ensures in
    let runs = simp (to_z-of_z w64 _ c.ranges.start) at c.runs_on.ensures in
    let is = simp (to_z-of_z w64 _ c.ranges.start) at c.stops.ensures in
    let stopped = simp (to_z-of_z w64 _ c.ranges.start) at c.stop.ensures in
    simp (to_z-of_z w64 _ pulse, to_z-of_z w64 _ c.ranges.start)
    (has_opened c.args.state.now c.args.running c.runs_on.result c.args.start c.args.end c.pulse_at.result c.stop.new.events.items c.requires.order runs now
    (stopped ∙ ap (λ (b : Bool). cond b (event c.args.start Stop ∷ []) []) is))
