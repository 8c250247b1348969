use Rattle.link_commands.proofs.HexLineLemmas.{good_line, seen_more}
use Rattle.link_commands.proofs.hex_lines.is_hex_line.Goals as goal

pub loop-character-preserved : goal.loop-character-preserved
loop-character-preserved c =
    seen_more c.args.line.now c.loop-character.character-index _ _ c.loop-character.invariant c.loop-character-test.true
    c.is_hex_digit-all_digits.ensures

pub returns-clause-good : goal.returns-clause-good
returns-clause-good c =
    good_line c.args.line.now c.loop-character.character-index c.loop-character.all_digits c.if-line-eq1.false
    c.loop-character.invariant c.loop-character-test.false
