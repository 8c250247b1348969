use Rattle.link_midi.proofs.PairLemmas.{before_continue, behind_position}
use Rattle.link_midi.proofs.laws.a_continue_follows_its_position.Goals as goal

pub returns-clause-behind : goal.returns-clause-behind
returns-clause-behind c = before_continue

pub returns-clause-before : goal.returns-clause-before
returns-clause-before c = behind_position
