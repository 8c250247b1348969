use Rattle.link_lines.proofs.NumberLemmas.{no_minus, no_minus_nought}
use Rattle.link_lines.proofs.number.signed_of.Goals as goal

pub returns-in_default-number_of-clause-none : goal.returns-in_default-number_of-clause-none
returns-in_default-number_of-clause-none c =
    no_minus c.args.word.now c.in-Some.digits.now c.in-Some.ensures.some c.in_default-number_of.ensures.none

pub returns-then-value-eq0-clause-none : goal.returns-then-value-eq0-clause-none
returns-then-value-eq0-clause-none c =
    no_minus_nought c.args.word.now c.in-Some.digits.now c.in-Some-number_of.value c.in-Some.ensures.some c.in-Some-number_of.ensures.some.1 c.if-value-eq0.true
