use Rattle.std.proofs.Common.{◌∙◌, arith}
use Rattle.std.proofs.lemmas.Int.{to_z-of_z}
use mir.Syntax.{w64}
use Rattle.step_sequencer.proofs.HitLemmas.{none_struck, few_more, all_more}
use Rattle.step_sequencer.proofs.steps.steps_begun.Goals as goal

pub loop-k-init : goal.loop-k-init
loop-k-init c = c.new-hits.ensures ∙ none_struck _ _ _

pub add_hit-requires-clause-room : goal.add_hit-requires-clause-room
add_hit-requires-clause-room c =
    let so_far = simp (to_z-of_z w64 _ c.ranges.origin) at c.loop-k.invariant in
    simp (to_z-of_z w64 _ c.ranges.origin)
    (few_more c.args.state.now c.args.origin c.args.first c.loop-k.k c.loop-k.hits.items c.requires.tidy.timeline (omega arith) so_far)

pub loop-k-preserved : goal.loop-k-preserved
loop-k-preserved c =
    let so_far = simp (to_z-of_z w64 _ c.ranges.origin) at c.loop-k.invariant in
    let added = simp (to_z-of_z w64 _ c.ranges.origin) at c.add_hit.ensures in
    simp (to_z-of_z w64 _ c.ranges.origin)
    (all_more c.args.state.now c.args.origin c.args.first c.loop-k.k c.loop-k.hits.items c.add_hit.new.hits.items so_far added)
