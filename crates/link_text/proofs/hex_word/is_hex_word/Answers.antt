use Rattle.std.proofs.Common.{arith}
use Rattle.link_text.proofs.HexWordLemmas.{bad_word, good_word, hyphen_word, says_digits}
use Rattle.link_text.proofs.hex_word.is_hex_word.Goals as goal
use Rattle.link_text.proofs.hex_word.is_hex_word.Goals.{then-word-lt2-via-then-word-lt2, then-word-lt2-via-else-word-lt2+then-word-gt1026, then-word-lt2-via-else-word-lt2+else-word-gt1026+then-word-eq1}

pub returns-then-is_word-clause-good : goal.returns-then-is_word-clause-good
returns-then-is_word-clause-good c = hyphen_word c.args.word.now (c.is_word.ensures.0 c.if-is_word.true)

pub returns-then-word-lt2-clause-bad : goal.returns-then-word-lt2-clause-bad
returns-then-word-lt2-clause-bad c = λ bytes short is.
    let some = says_digits c.args.word.now bytes short is (λ h. cc (c.is_word.ensures.1 h, c.if-is_word.false)) in
    elim c.then-word-lt2.branch [
      | then-word-lt2-via-then-word-lt2 w ↦ omega (arith, some.some, some.even, w.if-word-lt2.true)
      | then-word-lt2-via-else-word-lt2+then-word-gt1026 w ↦ omega (arith, some.short, w.if-word-gt1026.true)
      | then-word-lt2-via-else-word-lt2+else-word-gt1026+then-word-eq1 w ↦ omega (arith, some.even, w.if-word-eq1.true)
    ]

pub returns-clause-good : goal.returns-clause-good
returns-clause-good c =
    good_word c.args.word.now c.are_digits.result c.are_digits.ensures.good (omega arith) (omega arith) (omega arith)

pub returns-clause-bad : goal.returns-clause-bad
returns-clause-bad c =
    bad_word c.args.word.now c.are_digits.result c.are_digits.ensures.bad (λ h. cc (c.is_word.ensures.1 h, c.if-is_word.false))
