use Rattle.link_text.proofs.LiveLineLemmas.{some_setup, none_setup}
use Rattle.link_text.proofs.live_read.setup_of.Goals as goal

pub returns-clause-some : goal.returns-clause-some
returns-clause-some c = some_setup c.args.line.now c.setup_in.result c.setup_in.ensures.some

pub returns-clause-none : goal.returns-clause-none
returns-clause-none c = none_setup c.args.line.now c.setup_in.result c.setup_in.ensures.none
