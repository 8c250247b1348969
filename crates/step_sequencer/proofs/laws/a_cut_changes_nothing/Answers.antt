use Rattle.std.proofs.Common.{◌+◌, refl}
use Rattle.step_sequencer.proofs.HitLemmas.{struck_cut}
use Rattle.step_sequencer.proofs.SoundLemmas.{sounds_cut, ages_cut}
use Rattle.step_sequencer.proofs.laws.a_cut_changes_nothing.Goals as goal

pub returns-clause-steps : goal.returns-clause-steps
returns-clause-steps c = λ state origin first n m. struck_cut state origin first n m (n + m) refl

pub returns-clause-sounds : goal.returns-clause-sounds
returns-clause-sounds c = λ pattern state origin ages first n m. sounds_cut pattern state origin ages first n m (n + m) refl

pub returns-clause-ages : goal.returns-clause-ages
returns-clause-ages c = λ pattern state origin ages first n m. ages_cut pattern state origin ages first n m (n + m) refl
