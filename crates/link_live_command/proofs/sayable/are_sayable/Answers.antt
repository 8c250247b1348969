use Rattle.link_live_command.proofs.RecordLemmas.{all_sayable, sayable_next}
use Rattle.link_live_command.proofs.sayable.are_sayable.Goals as goal

pub loop-event-preserved : goal.loop-event-preserved
loop-event-preserved c =
    sayable_next c.args.events.now c.loop-event.event-index c.event-item.result c.loop-event-test.true c.event-item.is c.is_sayable.ensures c.loop-event.invariant

pub returns : goal.returns
returns c = λ gates app audio fit.
    all_sayable gates app audio c.args.events.now c.loop-event.event-index c.loop-event-test.false c.loop-event.invariant fit
