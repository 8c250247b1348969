use Rattle.link_asks.proofs.AskLemmas.{no_command_said}
use Rattle.link_asks.proofs.asking.ask_in.Goals as goal

pub returns-in_default-clause-none : goal.returns-in_default-clause-none
returns-in_default-clause-none c = no_command_said _ c.first_word.result.0.now _ c.first_word.ensures c.in_default.ensures.none
