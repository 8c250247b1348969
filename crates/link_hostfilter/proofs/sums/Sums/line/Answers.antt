use Rattle.std.proofs.Common.{◌≤◌, ◌^◌, unsigned_abs, arith}
use Rattle.std.proofs.lemmas.Int.{ints}
use Rattle.link_hostfilter.proofs.ReadLemmas.{product_is, short_product_is, difference_read, within_read}
use Rattle.link_hostfilter.proofs.sums.Sums.line.Goals as goal

pub returns-clause-at_zero : goal.returns-clause-at_zero
returns-clause-at_zero c =
    let sums = c.args.self.now in
    difference_read c.wide.result c.wide-2.result c.minus_wide.result _ _ c.wide.type_inv c.wide-2.type_inv c.minus_wide.type_inv
    (product_is sums.hosts sums.squares _ (omega arith) (omega arith) c.wide.ensures.value)
    (product_is sums.samples sums.products _ (omega arith) (omega arith) c.wide-2.ensures.value)
    c.minus_wide.ensures.value

pub returns-clause-rise : goal.returns-clause-rise
returns-clause-rise c =
    let sums = c.args.self.now in
    let few : unsigned_abs c.args.count ≤ 2 ^ 62 = omega (arith, ints, c.requires.count.0, c.requires.count.1) in
    difference_read c.counted.result c.twice.result c.minus.result _ _ c.counted.type_inv c.twice.type_inv c.minus.type_inv
    (short_product_is c.args.count sums.products _ few (omega arith) c.counted.ensures.value)
    (product_is sums.samples sums.hosts _ (omega arith) (omega arith) c.twice.ensures.value)
    c.minus.ensures.value

pub returns-clause-unit : goal.returns-clause-unit
returns-clause-unit c =
    let sums = c.args.self.now in
    let few : unsigned_abs c.args.count ≤ 2 ^ 62 = omega (arith, ints, c.requires.count.0, c.requires.count.1) in
    difference_read c.counted-2.result c.twice-2.result c.minus-2.result _ _ c.counted-2.type_inv c.twice-2.type_inv c.minus-2.type_inv
    (short_product_is c.args.count sums.squares _ few (omega arith) c.counted-2.ensures.value)
    (product_is sums.samples sums.samples _ (omega arith) (omega arith) c.twice-2.ensures.value)
    c.minus-2.ensures.value

pub returns-clause-low : goal.returns-clause-low
returns-clause-low c = within_read c.minus_wide.result (2 ^ 114) c.minus_wide.type_inv c.minus_wide.ensures.within

pub returns-clause-slow : goal.returns-clause-slow
returns-clause-slow c = within_read c.minus.result (2 ^ 83) c.minus.type_inv c.minus.ensures.within

pub returns-clause-small : goal.returns-clause-small
returns-clause-small c = within_read c.minus-2.result (2 ^ 83) c.minus-2.type_inv c.minus-2.ensures.within
