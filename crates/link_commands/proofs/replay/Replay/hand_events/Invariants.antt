-- What follows from the events before the place is handed over, for each machine that the node stood for, and there was no more than that;
-- the version stays.
use Rattle.std.proofs.Common.{◌≡◌, ◌≤◌, ◌+◌, ◌*◌, List}
use Rattle.link_node.specs.Event.{EventValue}
use Rattle.link_node.specs.Machine.{Machine}
use Rattle.link_node.specs.Standing.{StandsFor, app_of, audio_of, gates_of}
use Rattle.link_commands.specs.Replaying.{NodeGoesOn}
use Rattle.link_commands.proofs.ReplayLemmas.{HasHanded}
use Rattle.link_commands.proofs.ReplayingLemmas.{left_at}
use Rattle.link_commands.proofs.replay.Replay.hand_events.Given as goal

abbrev pub invariant-loop-event : goal.invariant-loop-event
invariant-loop-event g l = record {
  version : l.self.version ≡ l.fn.self.version;
  handed : (m : Machine) (es : List EventValue)
      → NodeGoesOn l.fn.self.node l.text l.fn.self.first m es
      → HasHanded l.fn.self.version (StandsFor l.self.node) (gates_of l.self.node) (app_of l.self.node) (audio_of l.self.node) l.text l.at l.counts.events l.counts.states l.counts.sends
      (g.K.Sink.seen l.fn.out).told l.fn.outlet.kept.items (g.K.Sink.seen l.out).told l.outlet.kept.items m es;
  few_states : l.counts.states ≤ l.counts.events + 1;
  few_sends : l.counts.sends ≤ 129 * l.counts.events;
  quiet : (g.K.Sink.seen l.out).faults ≡ (g.K.Sink.seen l.fn.out).faults;
}

abbrev pub decreases-loop-event : goal.decreases-loop-event
decreases-loop-event g l = left_at l.text l.at
