use Rattle.std.proofs.Common.{ap}
use Rattle.peer_gateway.specs.Answers.{first_of}
use Rattle.peer_gateway.proofs.FirstLemmas.{first_none, none_before}
use Rattle.peer_gateway.proofs.PickLemmas.{first_has}
use Rattle.peer_gateway.proofs.laws.no_row_comes_before_the_first.Goals as goal

pub returns-clause-first : goal.returns-clause-first
returns-clause-first c = λ rows row e. (first_has rows row e, λ other h. none_before rows row other e h)

pub returns-clause-none : goal.returns-clause-none
returns-clause-none c = λ rows. (first_none rows, λ e. ap first_of e)
