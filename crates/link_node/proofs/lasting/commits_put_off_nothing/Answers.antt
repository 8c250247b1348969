use Rattle.link_node.proofs.DueLemmas.{app_puts_off_nothing, audio_puts_off_nothing}
use Rattle.link_node.proofs.lasting.commits_put_off_nothing.Goals as goal

pub returns-clause-app : goal.returns-clause-app
returns-clause-app c = app_puts_off_nothing

pub returns-clause-audio : goal.returns-clause-audio
returns-clause-audio c = audio_puts_off_nothing
