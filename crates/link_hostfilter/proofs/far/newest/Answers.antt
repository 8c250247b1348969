use Rattle.std.proofs.Common.{◌-◌, length, pos, arith}
use Rattle.link_hostfilter.proofs.FarLemmas.{newest_is}
use Rattle.link_hostfilter.proofs.far.newest.Goals as goal

pub returns : goal.returns
returns c = newest_is (length c.args.pairs.now - 1) c.args.pairs.now (record { sample = pos 0; host = pos 0 }) (omega arith)
