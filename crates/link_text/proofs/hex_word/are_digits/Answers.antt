use Rattle.link_text.proofs.HexWordLemmas.{seen_all, seen_more}
use Rattle.link_text.proofs.hex_word.are_digits.Goals as goal

pub loop-character-preserved : goal.loop-character-preserved
loop-character-preserved c =
    seen_more c.args.word.now c.loop-character.character-index _ _ c.loop-character.invariant c.loop-character-test.true
    c.is_hex_digit-all_digits.ensures

pub returns-clause-good : goal.returns-clause-good
returns-clause-good c =
    seen_all c.args.word.now c.loop-character.character-index c.loop-character.all_digits c.loop-character.invariant c.loop-character-test.false
