-- The characters so far are looked at.
use Rattle.link_text.proofs.HexWordLemmas.{HasSeen}
use Rattle.link_text.proofs.hex_word.are_digits.Given as goal

abbrev pub invariant-loop-character : goal.invariant-loop-character
invariant-loop-character l = HasSeen l.word l.character-index l.all_digits
