use Rattle.std.proofs.Common.{refl}
use Rattle.link_node.specs.Step.{sends_of}
use Rattle.link_node.proofs.laws.commits_send_nothing.Goals as goal

pub returns-clause-app : goal.returns-clause-app
unfolding sends_of
returns-clause-app c = λ m commit now. refl

pub returns-clause-audio : goal.returns-clause-audio
unfolding sends_of
returns-clause-audio c = λ m number commit now. refl
