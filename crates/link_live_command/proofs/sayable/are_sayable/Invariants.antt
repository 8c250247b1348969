use Rattle.std.proofs.Common.{All, map, take}
use Rattle.link_node.specs.Event.{event_value}
use Rattle.link_live_command.proofs.RecordLemmas.{IsSayable}
use Rattle.link_live_command.proofs.sayable.are_sayable.Given as goal

abbrev pub invariant-loop-event : goal.invariant-loop-event
invariant-loop-event l = All IsSayable (map event_value (take l.event-index l.events))
