use Rattle.client_state.proofs.TimelineLemmas.{renewed}
use Rattle.client_state.proofs.laws.renewed_clients_keep_their_beat.Goals as goal

pub returns : goal.returns
returns c = renewed
