use Rattle.std.proofs.Common.{◌^◌, ◌≤◌, unsigned_abs, arith}
use Rattle.std.proofs.lemmas.Int.{ints}
use Rattle.link_hostfilter.proofs.ReadLemmas.{read_short, product_read, product_kept}
use Rattle.link_hostfilter.proofs.sums.counted.Goals as goal

pub returns-clause-value : goal.returns-clause-value
returns-clause-value c =
    let few : unsigned_abs c.args.count ≤ 512 = omega (arith, ints, c.requires.count.0, c.requires.count.1) in
    rw (read_short c.args.count (omega arith))
    (product_read c.args.count c.args.sum 512 (2 ^ 72) few c.requires.sum (omega arith) (omega arith) (omega arith))

pub returns-clause-within : goal.returns-clause-within
returns-clause-within c =
    let few : unsigned_abs c.args.count ≤ 512 = omega (arith, ints, c.requires.count.0, c.requires.count.1) in
    rw (read_short c.args.count (omega arith))
    (product_kept c.args.count c.args.sum 512 (2 ^ 72) (2 ^ 81) few c.requires.sum (omega arith) (omega arith) (omega arith) (omega arith))
