use Rattle.link_node.proofs.QuantumLemmas.{opened-quantum, step-gives, step-keeps, step-spent}
use Rattle.link_node.proofs.staying.quanta_are_committed.Goals as goal

pub returns-clause-opening : goal.returns-clause-opening
returns-clause-opening c = opened-quantum

pub returns-clause-taken : goal.returns-clause-taken
returns-clause-taken c = step-gives

pub returns-clause-kept : goal.returns-clause-kept
returns-clause-kept c = step-keeps

pub returns-clause-spent : goal.returns-clause-spent
returns-clause-spent c = step-spent
