use Rattle.std.proofs.Common.{◌^◌, arith}
use Rattle.link_hostfilter.proofs.ReadLemmas.{read_short, product_read, product_kept}
use Rattle.link_hostfilter.proofs.sums.scaled.Goals as goal

pub returns-clause-value : goal.returns-clause-value
returns-clause-value c =
    rw (read_short c.args.by (omega arith))
    (product_read c.args.sum c.args.by (2 ^ 42) (2 ^ 31) c.requires.sum c.requires.by (omega arith) (omega arith) (omega arith))

pub returns-clause-within : goal.returns-clause-within
returns-clause-within c =
    rw (read_short c.args.by (omega arith))
    (product_kept c.args.sum c.args.by (2 ^ 42) (2 ^ 31) (2 ^ 73) c.requires.sum c.requires.by (omega arith) (omega arith) (omega arith) (omega arith))
