use Rattle.std.proofs.Common.{◌≡◌, take}
use Rattle.lk_outside.specs.Sink.{Appends}
use Rattle.drum_machine.specs.Written.{midi_lines_of}
use Rattle.drum_machine.proofs.player.write_lines.Given as goal

abbrev pub invariant-loop-event : goal.invariant-loop-event
invariant-loop-event g l = record {
  lines : Appends (g.M.Sink.seen l.fn.midi).told (midi_lines_of (take l.event-index l.events)) (g.M.Sink.seen l.midi).told;
  faults : (g.M.Sink.seen l.midi).faults ≡ (g.M.Sink.seen l.fn.midi).faults;
}
