use Rattle.client_state.proofs.WordLemmas.{state-back, commit-back}
use Rattle.client_state.proofs.laws.rows_are_read_back.Goals as goal

pub returns-clause-state : goal.returns-clause-state
returns-clause-state c = state-back

pub returns-clause-commit : goal.returns-clause-commit
returns-clause-commit c = commit-back
