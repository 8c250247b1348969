use Rattle.client_state.proofs.EditLemmas.{tempo_set-beat}
use Rattle.client_state.proofs.laws.tempo_keeps_the_beat.Goals as goal

pub returns : goal.returns
returns c = λ tl mpb at _ unclipped. tempo_set-beat tl mpb at unclipped
