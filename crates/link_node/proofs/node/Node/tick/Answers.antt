use Rattle.std.proofs.Common.{append_assoc}
use Rattle.link_node.specs.Tick.{cleared, ticked, pings_of_tick}
use Rattle.link_node.proofs.SessionsLemmas.{room_for_current, measured_sessions, cleared_sessions}
use Rattle.link_node.proofs.BeginLemmas.{one_at_most}
use Rattle.link_node.proofs.node.Node.tick.Goals as goal

pub returns-clause-stands : goal.returns-clause-stands
unfolding ticked cleared
returns-clause-stands c m sessions stands =
    let clear = c.forget_idle.ensures.stands _ (c.prune.ensures.stands m stands) in
    let measured = c.tick_measurement.ensures.stands (cleared m) clear in
    let queued = c.queue_remeasuring.ensures.stands _ (room_for_current _ (measured_sessions _ (cleared_sessions m sessions))) measured in
    c.begin.ensures.stands _ queued

pub returns-clause-sends : goal.returns-clause-sends
unfolding pings_of_tick cleared
returns-clause-sends c m sessions stands =
    let clear = c.forget_idle.ensures.stands _ (c.prune.ensures.stands m stands) in
    let measured = c.tick_measurement.ensures.stands (cleared m) clear in
    let queued = c.queue_remeasuring.ensures.stands _ (room_for_current _ (measured_sessions _ (cleared_sessions m sessions))) measured in
    let first = c.tick_measurement.ensures.sends (cleared m) clear in
    rw (c.begin.ensures.sends _ queued, first, append_assoc)

pub returns-clause-len : goal.returns-clause-len
returns-clause-len c =
    one_at_most _ _ _ _ _ c.tick_measurement.ensures.len c.tick_measurement.ensures.silent c.queue_remeasuring.ensures.measure c.begin.ensures.none c.begin.ensures.len
