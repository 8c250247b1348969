use Rattle.std.proofs.Common.{refl, ◌∙◌}
use Rattle.std.proofs.lemmas.Bool.{OnTrue_at, OnFalse_at}
use Rattle.std.proofs.lemmas.List.{get_or_default}
use Rattle.drum_machine.proofs.ScoreLemmas.{front_of_steps, no_hit, no_steps, one_more_step}
use Rattle.drum_machine.proofs.score.Score.tell_steps.Goals as goal

pub loop-hit-init : goal.loop-hit-init
loop-hit-init g c = record { told = no_steps _ _; steps = c.saturating_add-self.ensures; tempo = refl; events = refl; faults = refl }

pub returns-then-not-write_whole-clause-part : goal.returns-then-not-write_whole-clause-part
returns-then-not-write_whole-clause-part g c =
    front_of_steps _ c.args.hits.now c.loop-hit.hit-index _ _ _ _ _ c.loop-hit-test.true (get_or_default c.args.hits.now c.loop-hit.hit-index no_hit _ c.loop-hit-test.true)
    (c.deref.ensures.0 ∙ c.put_step.ensures) c.loop-hit.invariant.told (OnFalse_at c.if-not-write_whole.true c.write_whole.ensures.part)

pub loop-hit-preserved : goal.loop-hit-preserved
loop-hit-preserved g c = record {
  told = one_more_step _ c.args.hits.now c.loop-hit.hit-index _ _ _ _ _ c.loop-hit-test.true (get_or_default c.args.hits.now c.loop-hit.hit-index no_hit _ c.loop-hit-test.true)
      (c.deref.ensures.0 ∙ c.put_step.ensures) c.loop-hit.invariant.told (OnTrue_at c.if-not-write_whole.false c.write_whole.ensures.whole);
  steps = c.loop-hit.invariant.steps;
  tempo = c.loop-hit.invariant.tempo;
  events = c.loop-hit.invariant.events;
  faults = OnTrue_at c.if-not-write_whole.false c.write_whole.ensures.quiet ∙ c.loop-hit.invariant.faults;
}
