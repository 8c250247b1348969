use Rattle.link_control.proofs.CutLemmas.{asked_of_kept, asked_range}
use Rattle.link_control.proofs.line.asked_in.Goals as goal

pub returns-clause-asked : goal.returns-clause-asked
returns-clause-asked c = λ whole is. asked_of_kept c.control_lines.ensures whole c.args.line.now _ is c.control_line_of.ensures

pub returns-clause-range : goal.returns-clause-range
returns-clause-range c = asked_range c.args.line.now _ c.control_line_of.ensures
