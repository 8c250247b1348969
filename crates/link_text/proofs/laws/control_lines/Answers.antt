use Rattle.link_text.proofs.ControlLineLemmas.{asked_one, asked_short}
use Rattle.link_text.proofs.laws.control_lines.Goals as goal

pub returns : goal.returns
returns c = record { one = asked_one; short = asked_short }
