use Rattle.link_lines.proofs.LineLemmas.{line_found, line_left}
use Rattle.link_lines.proofs.text_line.line_at.Goals as goal

pub returns-in-Some-clause-lines : goal.returns-in-Some-clause-lines
returns-in-Some-clause-lines c =
    line_found c.args.text.now c.in-Some.line.now c.in-Some.after.now c.args.at c.requires
    c.in-Some.ensures.some.0 c.in-Some.ensures.some.1

pub returns-in-None-clause-lines : goal.returns-in-None-clause-lines
returns-in-None-clause-lines c = line_left c.args.text.now c.args.at c.requires c.in-None.ensures.none
