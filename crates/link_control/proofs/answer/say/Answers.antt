use Rattle.std.proofs.Common.{arith, length-drop, length-take, ◌∙◌, sym, subst, IsSome}
use Rattle.link_control.proofs.ServingLemmas.{appends_next}
use Rattle.link_control.proofs.answer.say.Goals as goal

pub loop-done-preserved : goal.loop-done-preserved
loop-done-preserved g c = record {
  within = omega (arith, simp (length-take, length-drop) at c.in-Took.ensures.bytes.1);
  written = appends_next _ _ _ _ _ _ c.loop-done.invariant.written c.in-Took.ensures.bytes.2;
  faults = c.in-Took.ensures.cause ∙ c.loop-done.invariant.faults;
  left = c.in-Took.ensures.left ∙ c.loop-done.invariant.left;
  opened = c.in-Took.ensures.opened ∙ c.loop-done.invariant.opened;
  is_open = subst IsSome (sym c.in-Took.ensures.opened) c.loop-done.invariant.is_open;
}
