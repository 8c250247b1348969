use Rattle.std.proofs.Common.{ap}
use Rattle.peer_gateway.specs.Answers.{least_in}
use Rattle.peer_gateway.proofs.FirstLemmas.{least_none, is_least}
use Rattle.peer_gateway.proofs.laws.no_number_is_less_than_the_least.Goals as goal

pub returns-clause-least : goal.returns-clause-least
returns-clause-least c = λ numbers least e. is_least numbers least e

pub returns-clause-none : goal.returns-clause-none
returns-clause-none c = λ numbers. (least_none numbers, λ e. ap least_in e)
