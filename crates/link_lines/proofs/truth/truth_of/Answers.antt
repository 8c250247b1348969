use Rattle.link_lines.proofs.WordLemmas.{truth_byte, says_true, says_false, no_truth}
use Rattle.link_lines.proofs.truth.truth_of.Goals as goal

pub returns-then-word-ne1-clause-none : goal.returns-then-word-ne1-clause-none
returns-then-word-ne1-clause-none c = λ t e. c.if-word-ne1.true (truth_byte c.args.word.now t e).one

pub returns-then-digit-eq49-clause-some : goal.returns-then-digit-eq49-clause-some
returns-then-digit-eq49-clause-some c = says_true c.args.word.now c.if-word-ne1.false c.if-digit-eq49.true

pub returns-then-digit-eq48-clause-some : goal.returns-then-digit-eq48-clause-some
returns-then-digit-eq48-clause-some c = says_false c.args.word.now c.if-word-ne1.false c.if-digit-eq48.true

pub returns-clause-none : goal.returns-clause-none
returns-clause-none c = λ t e. no_truth c.args.word.now t e c.if-digit-eq49.false c.if-digit-eq48.false
