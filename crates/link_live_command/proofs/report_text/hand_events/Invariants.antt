-- The events so far are handed over.
use Rattle.std.proofs.Common.{◌≡◌}
use Rattle.link_node.specs.Event.{event_value}
use Rattle.link_script.specs.ReplayScript.{ended, event_line}
use Rattle.link_commands.proofs.ReplayLemmas.{HasHandedEach}
use Rattle.link_live_command.proofs.report_text.hand_events.Given as goal

abbrev pub invariant-loop-event : goal.invariant-loop-event
invariant-loop-event g l =
    HasHandedEach (λ e. ended (event_line (event_value e))) l.events l.event-index (g.K.Sink.seen l.fn.out).told l.fn.outlet.kept.items (g.K.Sink.seen l.out).told l.outlet.kept.items
    × ((g.K.Sink.seen l.out).faults ≡ (g.K.Sink.seen l.fn.out).faults)
