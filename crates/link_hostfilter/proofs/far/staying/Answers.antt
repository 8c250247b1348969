use Rattle.link_hostfilter.proofs.FarLemmas.{staying_is}
use Rattle.link_hostfilter.proofs.far.staying.Goals as goal

pub returns : goal.returns
returns c = staying_is c.saturating_sub.result c.args.pairs.now c.saturating_sub.ensures
