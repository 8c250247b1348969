use Rattle.std.proofs.Common.{arith}
use Rattle.lk_outside.proofs.SourceLemmas.{takes_more}
use Rattle.lk_outside.proofs.transfer.read_all.Goals as goal

pub returns-in_err-map_err-in-Got-clause-bounded :
    goal.returns-in_err-map_err-in-Got-clause-bounded
returns-in_err-map_err-in-Got-clause-bounded g c =
    takes_more _ _ _ c.loop-source.bytes.items c.read.new.buf c.args.limit c.in-Got.count 65_536
    c.loop-source.invariant.taken c.in-Got.ensures.bytes.2 (omega arith) (omega arith)
