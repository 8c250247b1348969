use Rattle.link_hostfilter.proofs.HoldLemmas.{holds_none}
use Rattle.link_hostfilter.proofs.filter.HostFilter.new.Goals as goal

pub invariant_of-result : goal.invariant_of-result
invariant_of-result c = holds_none c.new.result c.none.result c.none-2.result c.new.ensures c.none.ensures
