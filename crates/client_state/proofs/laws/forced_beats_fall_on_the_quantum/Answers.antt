use Rattle.client_state.proofs.EditLemmas.{forced-quantum, forced-free}
use Rattle.client_state.proofs.laws.forced_beats_fall_on_the_quantum.Goals as goal

pub returns-clause-quantum : goal.returns-clause-quantum
returns-clause-quantum c = forced-quantum

pub returns-clause-free : goal.returns-clause-free
returns-clause-free c = λ tl beat at _ unclipped. forced-free tl beat at unclipped
