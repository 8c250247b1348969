use Rattle.session_choice.proofs.WinningLemmas.{wins_over-decides, wins-one_way}
use Rattle.session_choice.proofs.laws.not_both_win.Goals as goal

pub returns-clause-rule : goal.returns-clause-rule
returns-clause-rule c = wins_over-decides

pub returns-clause-not_both : goal.returns-clause-not_both
returns-clause-not_both c = wins-one_way
