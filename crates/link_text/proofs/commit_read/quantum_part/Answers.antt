use Rattle.link_text.proofs.CommitLemmas.{no_quantum}
use Rattle.link_text.proofs.commit_read.quantum_part.Goals as goal

pub returns-in_default-quantum_in-clause-none : goal.returns-in_default-quantum_in-clause-none
returns-in_default-quantum_in-clause-none c = no_quantum _ _ _ c.in-Some.ensures.some c.in_default-quantum_in.ensures.none
