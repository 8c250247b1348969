use Rattle.std.proofs.Common.{arith}
use Rattle.link_hostfilter.proofs.ReadLemmas.{both_short_is, short_sum_read, sum_read}
use Rattle.link_hostfilter.proofs.sums.Sums.with.Goals as goal

pub returns-clause-samples : goal.returns-clause-samples
returns-clause-samples c = short_sum_read c.args.self.now.samples c.args.pair.now.sample c.plus.result (omega arith) (omega arith) c.plus.type_inv c.plus.ensures

pub returns-clause-hosts : goal.returns-clause-hosts
returns-clause-hosts c = short_sum_read c.args.self.now.hosts c.args.pair.now.host c.plus-2.result (omega arith) (omega arith) c.plus-2.type_inv c.plus-2.ensures

pub returns-clause-squares : goal.returns-clause-squares
returns-clause-squares c =
    let pair = c.args.pair.now in
    sum_read c.args.self.now.squares c.product.result c.plus-3.result _ (omega arith) c.product.type_inv c.plus-3.type_inv
    (both_short_is pair.sample pair.sample _ (omega arith) (omega arith) c.product.ensures.value)
    c.plus-3.ensures

pub returns-clause-products : goal.returns-clause-products
returns-clause-products c =
    let pair = c.args.pair.now in
    sum_read c.args.self.now.products c.product-2.result c.plus-4.result _ (omega arith) c.product-2.type_inv c.plus-4.type_inv
    (both_short_is pair.sample pair.host _ (omega arith) (omega arith) c.product-2.ensures.value)
    c.plus-4.ensures
