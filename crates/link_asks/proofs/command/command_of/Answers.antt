use Rattle.link_asks.proofs.CommandLemmas.{no_command_else}
use Rattle.link_asks.proofs.command.command_of.Goals as goal

pub returns-clause-none : goal.returns-clause-none
returns-clause-none c = no_command_else c.args.word.now c.other_of.result (c.in_default.ensures.none) (c.in_default-edit_of.ensures.none) c.other_of.ensures.none
