use Rattle.link_text.proofs.PairLemmas.{some_pair, none_pair}
use Rattle.link_text.proofs.pair.pair_of.Goals as goal

pub returns-clause-some : goal.returns-clause-some
returns-clause-some c = some_pair c.args.line.now c.pair_in.result c.pair_in.ensures.some

pub returns-clause-none : goal.returns-clause-none
returns-clause-none c = none_pair c.args.line.now c.pair_in.result c.pair_in.ensures.none
