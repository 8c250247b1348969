use Rattle.client_state.proofs.RequestLemmas.{requested-origin, requested-time}
use Rattle.client_state.proofs.laws.requested_beats_keep_the_phase.Goals as goal

pub returns-clause-origin : goal.returns-clause-origin
returns-clause-origin c = requested-origin

pub returns-clause-time : goal.returns-clause-time
returns-clause-time c = requested-time
