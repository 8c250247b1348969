use Rattle.link_text.proofs.ControlLineLemmas.{asked_by_words, none_asked}
use Rattle.link_text.proofs.control_line.control_line_of.Goals as goal

pub returns-then-line-gt-LONGEST : goal.returns-then-line-gt-LONGEST
returns-then-line-gt-LONGEST c = none_asked c.args.line.now c.if-line-gt-LONGEST.true

pub returns : goal.returns
returns c = asked_by_words c.args.line.now c.control_line_in.result c.control_line_in.ensures.some c.control_line_in.ensures.none
