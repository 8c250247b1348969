-- The events before the place are taken, and come at or before the time.
use Rattle.std.proofs.Common.{List}
use Rattle.link_node.specs.Event.{EventValue}
use Rattle.link_node.specs.Machine.{Machine}
use Rattle.link_node.specs.Standing.{StandsFor, app_of, audio_of, gates_of}
use Rattle.link_commands.specs.Replaying.{NodeGoesOn}
use Rattle.link_commands.proofs.MidiLemmas.{HasTakenDue}
use Rattle.link_commands.proofs.ReplayingLemmas.{left_at}
use Rattle.link_commands.proofs.midi.Midi.take_due.Given as goal

abbrev pub invariant-loop : goal.invariant-loop
invariant-loop l =
    (m : Machine) (es : List EventValue) → NodeGoesOn l.fn.self.script.node l.text l.fn.at m es
    → HasTakenDue (StandsFor l.self.script.node) (gates_of l.self.script.node) (app_of l.self.script.node) (audio_of l.self.script.node) l.text l.at l.time m es

abbrev pub decreases-loop : goal.decreases-loop
decreases-loop l = left_at l.text l.at
