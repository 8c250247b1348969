-- The characters so far are looked at.
use Rattle.link_commands.proofs.HexLineLemmas.{HasSeen}
use Rattle.link_commands.proofs.hex_lines.is_hex_line.Given as goal

abbrev pub invariant-loop-character : goal.invariant-loop-character
invariant-loop-character l = HasSeen l.line l.character-index l.all_digits
