use Rattle.std.proofs.Common.{◌^◌, arith}
use Rattle.link_hostfilter.proofs.ReadLemmas.{product_read, product_kept}
use Rattle.link_hostfilter.proofs.sums.wide.Goals as goal

pub returns-clause-value : goal.returns-clause-value
returns-clause-value c = product_read c.args.a c.args.b (2 ^ 41) (2 ^ 72) c.requires.a c.requires.b (omega arith) (omega arith) (omega arith)

pub returns-clause-within : goal.returns-clause-within
returns-clause-within c =
    product_kept c.args.a c.args.b (2 ^ 41) (2 ^ 72) (2 ^ 113) c.requires.a c.requires.b (omega arith) (omega arith) (omega arith) (omega arith)
