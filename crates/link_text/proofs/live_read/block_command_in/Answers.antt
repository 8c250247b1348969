use Rattle.link_lines.specs.LineWords.{words_of, words_left}
use Rattle.link_text.proofs.LiveLineLemmas.{no_nought}
use Rattle.link_text.proofs.live_read.block_command_in.Goals as goal

pub returns-then-number-eq0-clause-none : goal.returns-then-number-eq0-clause-none
returns-then-number-eq0-clause-none c = λ command range same.
    no_nought (words_of c.args.line.now) (words_left c.in-Some.left.now) c.in-Some.number command
    (cc (c.first_word.ensures, c.is_word.ensures.0 c.if-not-is_word.false, c.in-Some.ensures.some.1)) c.if-number-eq0.true range same
