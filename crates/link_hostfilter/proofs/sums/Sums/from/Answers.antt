use Rattle.std.proofs.Common.{◌≤◌, ◌^◌, ◌∙◌, ap, ℤ, ◌*ℤ◌, unsigned_abs, to_z, of_z, arith}
use Rattle.std.proofs.lemmas.Int.{ints}
use mir.Syntax.{w128}
use Rattle.link_hostfilter.proofs.ReadLemmas.{read_short, scaled_is, shifted_read, without_read}
use Rattle.link_hostfilter.proofs.sums.Sums.from.Goals as goal

pub returns-clause-samples : goal.returns-clause-samples
returns-clause-samples c =
    let few : unsigned_abs c.args.count ≤ 2 ^ 62 = omega (arith, ints, c.requires.count.0, c.requires.count.1) in
    shifted_read c.args.self.now.samples c.args.count c.args.base.now.sample c.shifted-samples.result (omega arith) few (omega arith)
    c.shifted-samples.type_inv c.shifted-samples.ensures.value

pub returns-clause-hosts : goal.returns-clause-hosts
returns-clause-hosts c =
    let few : unsigned_abs c.args.count ≤ 2 ^ 62 = omega (arith, ints, c.requires.count.0, c.requires.count.1) in
    shifted_read c.args.self.now.hosts c.args.count c.args.base.now.host c.shifted-hosts.result (omega arith) few (omega arith)
    c.shifted-hosts.type_inv c.shifted-hosts.ensures.value

pub returns-clause-squares : goal.returns-clause-squares
returns-clause-squares c =
    let samples = to_z w128 (of_z w128 c.shifted-samples.result) in
    let by = c.args.base.now.sample in
    without_read c.args.self.now.squares c.scaled-squares.result c.scaled.result c.without.result _ _ (omega arith)
    c.scaled-squares.type_inv c.scaled.type_inv c.without.type_inv
    (scaled_is c.args.self.now.samples by _ (omega arith) (omega arith) c.scaled-squares.ensures.value)
    (c.scaled.ensures.value ∙ ap (λ (z : ℤ). samples *ℤ z) (read_short by (omega arith)))
    c.without.ensures

pub returns-clause-products : goal.returns-clause-products
returns-clause-products c =
    let samples = to_z w128 (of_z w128 c.shifted-samples.result) in
    let by = c.args.base.now.sample in
    let host = c.args.base.now.host in
    without_read c.args.self.now.products c.scaled-products.result c.scaled-2.result c.without-2.result _ _ (omega arith)
    c.scaled-products.type_inv c.scaled-2.type_inv c.without-2.type_inv
    (scaled_is c.args.self.now.hosts by _ (omega arith) (omega arith) c.scaled-products.ensures.value)
    (c.scaled-2.ensures.value ∙ ap (λ (z : ℤ). samples *ℤ z) (read_short host (omega arith)))
    c.without-2.ensures
