use Rattle.std.proofs.Common.{arith, ◌∙◌, ap, length}
use Rattle.link_node.proofs.BeginLemmas.{begun_more, begun_all, pings_all, quiet, silent_more, not_running}
use Rattle.link_node.proofs.node.Node.begin.Goals as goal

pub loop-session-preserved : goal.loop-session-preserved
loop-session-preserved c =
    let still = quiet _ _ _ _ c.loop-session.invariant.silent c.in-Some.ensures.none in
    let same = ap (λ sends. length sends) still in
    record {
      begun = λ m stands.
          let has = c.loop-session.invariant.begun m stands in
          let first = c.in-Some.ensures.stands has.mid has.stands in
          begun_more _ _ _ _ _ _ m has first.0 (c.begin_one.ensures.stands _ first.1) (c.begin_one.ensures.sends _ first.1);
      silent = silent_more _ _ _ _ still c.begin_one.ensures.silent;
      none = λ runs. not_running _ _ (c.loop-session.invariant.none runs).1 c.in-Some.ensures.none;
      len = omega arith;
      gates = c.begin_one.ensures.gates ∙ c.take_first.ensures.gates ∙ c.loop-session.invariant.gates;
      app = c.begin_one.ensures.app ∙ c.take_first.ensures.app ∙ c.loop-session.invariant.app;
      audio = c.begin_one.ensures.audio ∙ c.take_first.ensures.audio ∙ c.loop-session.invariant.audio;
    }

pub returns-clause-stands : goal.returns-clause-stands
returns-clause-stands c m stands =
    let has = c.loop-session.invariant.begun m stands in
    let first = rw c.in_default.is at (c.take_first.ensures.stands has.mid has.stands) in
    begun_all _ _ _ _ m has first.0 first.1

pub returns-clause-sends : goal.returns-clause-sends
returns-clause-sends c m stands =
    let has = c.loop-session.invariant.begun m stands in
    let first = rw c.in_default.is at (c.take_first.ensures.stands has.mid has.stands) in
    pings_all _ _ _ m has first.0
