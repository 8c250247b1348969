use Rattle.std.proofs.Common.{◌-◌, length, map, drop}
use Rattle.std.specs.String.{string_bytes}
use Rattle.session_server.specs.Words.{named_in}
use Rattle.session_server.proofs.WordLemmas.{Counts}
use Rattle.session_server.proofs.parts.find.Given as goal

abbrev pub invariant-loop-at : goal.invariant-loop-at
invariant-loop-at l =
    Counts (named_in l.first l.second (map string_bytes l.words)) (named_in l.first l.second (drop l.at (map string_bytes l.words))) l.number l.left

abbrev pub decreases-loop-at : goal.decreases-loop-at
decreases-loop-at l = length l.words - l.at
