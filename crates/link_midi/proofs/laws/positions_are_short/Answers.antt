use Rattle.link_midi.proofs.PairLemmas.{positions_short}
use Rattle.link_midi.proofs.laws.positions_are_short.Goals as goal

pub returns : goal.returns
returns c = positions_short
