use Rattle.std.proofs.Common.{◌^◌, arith}
use Rattle.link_hostfilter.proofs.ReadLemmas.{read_short, product_read, product_kept}
use Rattle.link_hostfilter.proofs.sums.product.Goals as goal

pub returns-clause-value : goal.returns-clause-value
returns-clause-value c =
    rw (read_short c.args.a (omega arith), read_short c.args.b (omega arith))
    (product_read c.args.a c.args.b (2 ^ 31) (2 ^ 31) c.requires.a c.requires.b (omega arith) (omega arith) (omega arith))

pub returns-clause-within : goal.returns-clause-within
returns-clause-within c =
    rw (read_short c.args.a (omega arith), read_short c.args.b (omega arith))
    (product_kept c.args.a c.args.b (2 ^ 31) (2 ^ 31) (2 ^ 62) c.requires.a c.requires.b (omega arith) (omega arith) (omega arith) (omega arith))
