use Rattle.std.proofs.Common.{rules, sym}
use Rattle.link_node.specs.Measuring.{measurement_ticked, pings_after_tick}
use Rattle.link_node.proofs.MeasuringLemmas.{runs, none_runs, sent_or_on, no_tick}
use Rattle.link_node.proofs.PartLemmas.{now_in}
use Rattle.link_node.proofs.node.Node.tick_measurement.Goals as goal

pub returns-in_default-clause-stands : goal.returns-in_default-clause-stands
unfolding measurement_ticked
returns-in_default-clause-stands c m stands = rw (no_tick _ m (none_runs _ _ c.in_default.is stands.measuring)) (search rules)

pub returns-in_default-clause-sends : goal.returns-in_default-clause-sends
unfolding pings_after_tick
returns-in_default-clause-sends c m stands = rw (none_runs _ _ c.in_default.is stands.measuring) (search rules)

pub returns-clause-stands : goal.returns-clause-stands
unfolding measurement_ticked
returns-clause-stands c m stands =
    let life = runs _ _ _ c.in-Some.is stands.measuring in
    let told = rw (now_in _ m stands) at (c.tick-outcome.ensures.answer life.value life.stands) in
    let kept = rw (now_in _ m stands) at (c.tick-outcome.ensures.stands life.value life.stands) in
    let session = c.session-session.ensures life.value life.stands in
    rw (life.is, sym told, sym session) (c.judge.ensures.stands _ (search rules))

pub returns-clause-sends : goal.returns-clause-sends
unfolding pings_after_tick
returns-clause-sends c m stands =
    let life = runs _ _ _ c.in-Some.is stands.measuring in
    let told = rw (now_in _ m stands) at (c.tick-outcome.ensures.answer life.value life.stands) in
    let target = c.target-target.ensures life.value life.stands in
    rw (life.is, sym told, sym target) c.send_ping.ensures.sends

pub returns-clause-silent : goal.returns-clause-silent
returns-clause-silent c = sent_or_on _ _ _ _ _ _ c.send_ping.ensures.sends c.judge.ensures.again
