use Rattle.link_text.proofs.PairLemmas.{pair_one}
use Rattle.link_text.proofs.laws.one_pair.Goals as goal

pub returns : goal.returns
returns c = pair_one
