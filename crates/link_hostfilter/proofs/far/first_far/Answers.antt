use Rattle.std.proofs.Common.{sym, arith}
use Rattle.std.proofs.lemmas.Int.{ints}
use Rattle.link_hostfilter.proofs.FarLemmas.{none_far_from}
use Rattle.link_hostfilter.proofs.far.first_far.Goals as goal

pub returns-then-is_near_oldest : goal.returns-then-is_near_oldest
returns-then-is_near_oldest c =
    let near = c.is_near.ensures in
    sym (none_far_from c.args.new.now c.args.pairs.now c.args.hosts.now (λ some. c.is_near_oldest.ensures some c.if-is_near_oldest.true)
    (omega (arith, ints, near.low c.if-is_near.true)) (omega (arith, ints, near.high c.if-is_near.true)) c.requires.near c.requires.among)
