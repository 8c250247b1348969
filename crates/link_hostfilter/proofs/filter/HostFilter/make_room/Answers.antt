use Rattle.std.proofs.Common.{sym, arith}
use Rattle.link_hostfilter.proofs.KeptLemmas.{last_few}
use Rattle.link_hostfilter.proofs.filter.HostFilter.make_room.Goals as goal

pub returns-else-len-eq-PAIRS : goal.returns-else-len-eq-PAIRS
returns-else-len-eq-PAIRS c =
    let count = c.len.ensures.count in
    let few = c.len.ensures.few in
    sym (last_few 511 c.args.self.now (omega arith))
