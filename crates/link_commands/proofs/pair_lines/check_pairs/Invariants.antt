-- The lines before `at` say pairs.
use Rattle.std.proofs.Common.{◌-◌, length}
use Rattle.link_commands.proofs.PairLineLemmas.{HasPairs}
use Rattle.link_commands.proofs.pair_lines.check_pairs.Given as goal

abbrev pub invariant-loop-at : goal.invariant-loop-at
invariant-loop-at l = HasPairs l.text l.number l.at

abbrev pub decreases-loop-at : goal.decreases-loop-at
decreases-loop-at l = length l.text - l.at
