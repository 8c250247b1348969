use Rattle.std.proofs.Common.{◌-◌, length, map, drop}
use Rattle.std.specs.String.{string_bytes}
use Rattle.midi_clock.specs.Words.{values_of}
use Rattle.midi_clock.proofs.WordLemmas.{Counts}
use Rattle.midi_clock.proofs.words.value.Given as goal

abbrev pub invariant-loop-at : goal.invariant-loop-at
invariant-loop-at l =
    Counts (values_of l.name (map string_bytes l.words)) (values_of l.name (drop l.at (map string_bytes l.words))) l.number l.left

abbrev pub decreases-loop-at : goal.decreases-loop-at
decreases-loop-at l = length l.words - l.at
