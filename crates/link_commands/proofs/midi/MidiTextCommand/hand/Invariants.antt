-- The first blocks are played, and their text is handed over. The bounds are for the clock and for the number of events.
use Rattle.std.proofs.Common.{◌≡◌, ◌≤◌, ◌+◌, ◌-◌, ◌*◌, ◌^◌, ◌≤ℤ◌, pos}
use Rattle.link_node.specs.Standing.{StandsFor, app_of, audio_of, gates_of}
use Rattle.link_commands.proofs.MidiLemmas.{HasPlayed}
use Rattle.link_commands.proofs.midi.MidiTextCommand.hand.Given as goal

abbrev pub invariant-loop-blocks : goal.invariant-loop-blocks
invariant-loop-blocks g l = record {
  played : HasPlayed l.params.length l.params.blocks (StandsFor l.self.script.node) (gates_of l.self.script.node) (app_of l.self.script.node) (audio_of l.self.script.node) l.text l.at l.start l.blocks l.events l.clock
      (g.K.Sink.seen l.fn.out).told l.fn.outlet.kept.items (g.K.Sink.seen l.out).told l.outlet.kept.items;
  quiet : (g.K.Sink.seen l.out).faults ≡ (g.K.Sink.seen l.fn.out).faults;
  low : pos 0 ≤ℤ l.start;
  high : l.start ≤ℤ pos (2 ^ 55 + 1_000_000 * l.blocks);
  few : l.events ≤ 404 * l.blocks;
}

abbrev pub decreases-loop-blocks : goal.decreases-loop-blocks
decreases-loop-blocks g l = l.params.blocks - l.blocks
