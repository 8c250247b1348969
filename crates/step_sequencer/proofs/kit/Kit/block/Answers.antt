use Rattle.std.proofs.Common.{FitsSigned, rules, arith}
use Rattle.std.proofs.lemmas.Int.{to_z-of_z}
use mir.Syntax.{w16, w64}
use Rattle.step_sequencer.proofs.SoundLemmas.{no_sounds, sounds_so_far, more_sounds, all_sounds}
use Rattle.step_sequencer.proofs.kit.Kit.block.Goals as goal

pub loop-k-init : goal.loop-k-init
loop-k-init c = no_sounds _ _ _ _ _ _ c.clear.ensures

pub push-requires : goal.push-requires
push-requires c =
    let long = sounds_so_far _ _ _ _ _ _ _ _ c.loop-k.invariant in
    (omega arith, omega (arith, long))

pub loop-k-preserved : goal.loop-k-preserved
loop-k-preserved c =
    let fits : FitsSigned w16 c.frame-sounded.result.sample = search rules in
    let has = simp (to_z-of_z w64 _ c.ranges.origin) at c.loop-k.invariant in
    let ages = simp (to_z-of_z w64 _ c.ranges.origin) at c.frame-sounded.ensures.ages in
    let pushed = simp (to_z-of_z w16 _ fits) at c.push.ensures.items in
    simp (to_z-of_z w64 _ c.ranges.origin)
    (more_sounds c.args.pattern.now c.args.state.now c.args.origin c.args.self.now c.loop-k.self c.frame-sounded.new.self c.args.first c.loop-k.k c.loop-k.samples.items c.push.new.self.items c.frame-sounded.result.sample has ages c.frame-sounded.ensures.sample pushed)

pub returns-clause-samples : goal.returns-clause-samples
returns-clause-samples c =
    let has = simp (to_z-of_z w64 _ c.ranges.origin) at c.loop-k.invariant in
    (all_sounds c.args.pattern.now c.args.state.now c.args.origin c.args.self.now c.loop-k.self c.args.first c.loop-k.k c.args.count c.loop-k.samples.items (omega arith) has).samples_are

pub returns-clause-ages : goal.returns-clause-ages
returns-clause-ages c =
    let has = simp (to_z-of_z w64 _ c.ranges.origin) at c.loop-k.invariant in
    (all_sounds c.args.pattern.now c.args.state.now c.args.origin c.args.self.now c.loop-k.self c.args.first c.loop-k.k c.args.count c.loop-k.samples.items (omega arith) has).ages_are_so
