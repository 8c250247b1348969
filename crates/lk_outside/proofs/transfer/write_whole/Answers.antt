use Rattle.std.proofs.Common.{arith, length-drop, ◌∙◌}
use Rattle.std.proofs.lemmas.List.{length-take}
use Rattle.lk_outside.proofs.SinkLemmas.{appends_next}
use Rattle.lk_outside.proofs.transfer.write_whole.Goals as goal

pub loop-done-preserved : goal.loop-done-preserved
loop-done-preserved g c = record {
  within = omega (arith, simp (length-take, length-drop) at c.in-Took.ensures.bytes.1);
  written = appends_next _ _ _ _ _ _ c.loop-done.invariant.written c.in-Took.ensures.bytes.2;
  faults = c.in-Took.ensures.cause ∙ c.loop-done.invariant.faults;
  untouched = λ nothing. absurd (omega (arith, c.in-Took.ensures.bytes.0, nothing));
}
