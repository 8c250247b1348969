use Rattle.link_hostfilter.proofs.HoldLemmas.{holds_none}
use Rattle.link_hostfilter.proofs.filter.HostFilter.reset.Goals as goal

pub invariant_of-self : goal.invariant_of-self
invariant_of-self c = holds_none c.clear.new.self c.none-self-inside.result c.none-self-inside-2.result c.clear.ensures c.none-self-inside.ensures
