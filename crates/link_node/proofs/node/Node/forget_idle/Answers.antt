use Rattle.std.proofs.Common.{arith, ◌∙◌, sym, refl}
use Rattle.link_node.specs.Tick.{idle_forgotten}
use Rattle.link_node.proofs.ForgetLemmas.{first_left, forgotten_none, forgotten_needed, forgotten_one, forgotten_all, one_fewer}
use Rattle.link_node.proofs.node.Node.forget_idle.Goals as goal

pub loop-k-init : goal.loop-k-init
loop-k-init c = record { forgotten = λ m stands. forgotten_none _ m stands; gates = refl; app = refl; audio = refl }

pub loop-k-preserved-then-is_needed : goal.loop-k-preserved-then-is_needed
loop-k-preserved-then-is_needed c = record {
  forgotten = λ m stands.
      let has = c.loop-k.invariant.forgotten m stands in
      let first = first_left has.front has.rest _ _ has.count (c.other-session.ensures.answer _ has.stands.sessions) in
      forgotten_needed _ _ _ m has first (sym (c.is_needed.ensures _ first.first has.stands first.is) ∙ c.if-is_needed.true);
  gates = c.loop-k.invariant.gates;
  app = c.loop-k.invariant.app;
  audio = c.loop-k.invariant.audio;
}

pub loop-k-preserved : goal.loop-k-preserved
loop-k-preserved c = record {
  forgotten = λ m stands.
      let has = c.loop-k.invariant.forgotten m stands in
      let first = first_left has.front has.rest _ _ has.count (c.other-session.ensures.answer _ has.stands.sessions) in
      forgotten_one _ _ _ _ m has first (sym (c.is_needed.ensures _ first.first has.stands first.is) ∙ c.if-is_needed.false)
      (λ j taking at same. c.other-session.ensures.alone _ j taking has.stands.sessions at same)
      (c.forget.ensures.stands _ has.stands);
  gates = c.forget.ensures.gates ∙ c.loop-k.invariant.gates;
  app = c.forget.ensures.app ∙ c.loop-k.invariant.app;
  audio = c.forget.ensures.audio ∙ c.loop-k.invariant.audio;
}

pub loop-k-smaller : goal.loop-k-smaller
loop-k-smaller c =
    let fewer = one_fewer _ _ _ _ c.other-session.ensures.answer c.forget.ensures.sessions in
    let here = c.loop-k-test.true in
    let count = c.other_count.ensures.count in
    omega (arith, fewer)

pub returns-clause-stands : goal.returns-clause-stands
unfolding idle_forgotten
returns-clause-stands c m stands =
    let has = c.loop-k.invariant.forgotten m stands in
    let count = c.other_count.ensures.answer _ has.stands.sessions in
    forgotten_all _ _ m has (let past = c.loop-k-test.false in omega (arith, count))
