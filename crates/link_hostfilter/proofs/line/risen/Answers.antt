use Rattle.std.proofs.Common.{◌^◌, arith}
use Rattle.link_hostfilter.proofs.ReadLemmas.{read_short, product_read, product_kept}
use Rattle.link_hostfilter.proofs.line.risen.Goals as goal

pub returns-clause-value : goal.returns-clause-value
returns-clause-value c =
    rw (read_short c.args.sample (omega arith))
    (product_read c.args.rise c.args.sample (2 ^ 83) (2 ^ 31) c.requires.rise c.requires.sample (omega arith) (omega arith) (omega arith))

pub returns-clause-within : goal.returns-clause-within
returns-clause-within c =
    rw (read_short c.args.sample (omega arith))
    (product_kept c.args.rise c.args.sample (2 ^ 83) (2 ^ 31) (2 ^ 114) c.requires.rise c.requires.sample (omega arith) (omega arith) (omega arith) (omega arith))
