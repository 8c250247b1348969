use Rattle.session_choice.proofs.BestLemmas.{best_of-IsBest, one_best_only}
use Rattle.session_choice.proofs.laws.one_best.Goals as goal

pub returns-clause-there : goal.returns-clause-there
returns-clause-there c = best_of-IsBest

pub returns-clause-one : goal.returns-clause-one
returns-clause-one c = one_best_only
