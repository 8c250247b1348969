use Rattle.std.proofs.Common.{pos, arith}
use Rattle.std.proofs.lemmas.Int.{ints}
use Rattle.link_hostfilter.proofs.FarLemmas.{among_step, among_all, among_none}
use Rattle.link_hostfilter.proofs.span.Span.of.Goals as goal

pub loop-pair-init : goal.loop-pair-init
loop-pair-init c = among_none c.none-span.result c.args.pairs.now

pub loop-pair-preserved : goal.loop-pair-preserved
loop-pair-preserved c =
    let more = c.with-span.ensures in
    among_step c.loop-pair.span c.with-span.result c.loop-pair.pair-index c.args.pairs.now (record { sample = pos 0; host = pos 0 }) c.loop-pair-test.true
    more.low more.high (omega (arith, ints, more.above)) (omega (arith, ints, more.below)) c.loop-pair.invariant

pub returns : goal.returns
returns c = among_all c.loop-pair.span c.loop-pair.pair-index c.args.pairs.now (omega arith) c.loop-pair.invariant
