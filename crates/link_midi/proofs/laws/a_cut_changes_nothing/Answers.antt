use Rattle.std.proofs.Common.{◌+◌, refl}
use Rattle.link_midi.proofs.EventLemmas.{events_cut, running_cut}
use Rattle.link_midi.proofs.laws.a_cut_changes_nothing.Goals as goal

pub returns-clause-events : goal.returns-clause-events
returns-clause-events c = λ state running start n m. events_cut state running start n m (n + m) refl

pub returns-clause-running : goal.returns-clause-running
returns-clause-running c = λ state running start n m. running_cut state running start n m (n + m) refl
