-- The datagrams so far are handed over.
use Rattle.std.proofs.Common.{◌≡◌}
use Rattle.link_node.specs.Event.{event_value, moment_of, sending_value}
use Rattle.link_text.specs.ReplayText.{sending_line_of}
use Rattle.link_commands.proofs.ReplayLemmas.{HasHandedEach}
use Rattle.link_commands.proofs.replay_lines.hand_sends.Given as goal

abbrev pub invariant-loop-sending : goal.invariant-loop-sending
invariant-loop-sending g l =
    HasHandedEach (λ s. sending_line_of (moment_of (event_value l.event)) (sending_value s)) l.sends l.sending-index (g.K.Sink.seen l.fn.out).told l.fn.outlet.kept.items (g.K.Sink.seen l.out).told l.outlet.kept.items
    × ((g.K.Sink.seen l.out).faults ≡ (g.K.Sink.seen l.fn.out).faults)
