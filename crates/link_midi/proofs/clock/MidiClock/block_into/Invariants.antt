use Rattle.std.proofs.Common.{◌-ℤ◌, unsigned_abs}
use Rattle.link_midi.specs.Progress.{HasEvents}
use Rattle.link_midi.proofs.clock.MidiClock.block_into.Given as goal

abbrev pub invariant-loop-block : goal.invariant-loop-block
invariant-loop-block l =
    HasEvents l.state l.was l.block.start l.end l.place.running l.place.pulse l.place.from l.events.items

abbrev pub decreases-loop-block : goal.decreases-loop-block
decreases-loop-block l = unsigned_abs (l.end -ℤ l.place.from)
