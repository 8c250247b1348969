use Rattle.std.proofs.Common.{◌-ℤ◌, unsigned_abs}
use Rattle.timeline_math.specs.Metronome.{HasClicks}
use Rattle.timeline_math.proofs.metronome.clicks.Given as goal

abbrev pub invariant-loop-block : goal.invariant-loop-block
invariant-loop-block l =
    HasClicks l.tl l.quantum l.block.start l.end l.place.beats l.place.from l.clicks.items

abbrev pub decreases-loop-block : goal.decreases-loop-block
decreases-loop-block l = unsigned_abs (l.end -ℤ l.place.from)
