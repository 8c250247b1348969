use Rattle.client_state.proofs.EditLemmas.{forced-moved}
use Rattle.client_state.proofs.laws.forced_beats_move_the_origin_by_quanta.Goals as goal

pub returns : goal.returns
returns c = forced-moved
