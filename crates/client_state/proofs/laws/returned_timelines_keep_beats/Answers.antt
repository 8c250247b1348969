use Rattle.client_state.proofs.TimelineLemmas.{returned}
use Rattle.client_state.proofs.laws.returned_timelines_keep_beats.Goals as goal

pub returns : goal.returns
returns c = λ client session given at now offset time tidy _ e unclipped.
    returned client session given at now offset time tidy e unclipped
