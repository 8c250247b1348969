-- The lines before `at` are in the grammar.
use Rattle.std.proofs.Common.{◌-◌, length}
use Rattle.link_commands.proofs.HexLineLemmas.{HasChecked}
use Rattle.link_commands.proofs.hex_lines.longest_line.Given as goal

abbrev pub invariant-loop-at : goal.invariant-loop-at
invariant-loop-at l = HasChecked l.text l.number l.at l.longest

abbrev pub decreases-loop-at : goal.decreases-loop-at
decreases-loop-at l = length l.text - l.at
