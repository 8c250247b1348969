use Rattle.link_script.specs.LiveScript.{app}
use Rattle.link_text.proofs.LiveLineLemmas.{some_command, none_command}
use Rattle.link_text.proofs.live_read.app_command_of.Goals as goal

pub returns-clause-some : goal.returns-clause-some
returns-clause-some c = some_command app c.args.line.now c.app_command_in.result c.app_command_in.ensures.some

pub returns-clause-none : goal.returns-clause-none
returns-clause-none c = none_command app c.args.line.now c.app_command_in.result c.app_command_in.ensures.none
