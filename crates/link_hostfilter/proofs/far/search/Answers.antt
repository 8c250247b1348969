use Rattle.std.proofs.Common.{pos, sym, ◌∙◌, arith}
use Rattle.link_hostfilter.proofs.FarLemmas.{within_at, far_here, far_later, far_none}
use Rattle.link_hostfilter.proofs.far.search.Goals as goal

pub is_far_from-requires-clause-sample : goal.is_far_from-requires-clause-sample
is_far_from-requires-clause-sample c =
    (within_at c.loop-pair.pair-index c.args.pairs.now (record { sample = pos 0; host = pos 0 }) c.loop-pair-test.true c.requires.limits).0

pub is_far_from-requires-clause-host : goal.is_far_from-requires-clause-host
is_far_from-requires-clause-host c =
    (within_at c.loop-pair.pair-index c.args.pairs.now (record { sample = pos 0; host = pos 0 }) c.loop-pair-test.true c.requires.limits).1

pub returns-then-is_far_from : goal.returns-then-is_far_from
returns-then-is_far_from c =
    sym (far_here c.args.new.now c.loop-pair.pair-index c.args.pairs.now (record { sample = pos 0; host = pos 0 }) c.loop-pair-test.true (sym c.is_far_from.ensures ∙ c.if-is_far_from.true))
    ∙ c.loop-pair.invariant

pub loop-pair-preserved : goal.loop-pair-preserved
loop-pair-preserved c =
    sym (far_later c.args.new.now c.loop-pair.pair-index c.args.pairs.now (record { sample = pos 0; host = pos 0 }) c.loop-pair-test.true (sym c.is_far_from.ensures ∙ c.if-is_far_from.false))
    ∙ c.loop-pair.invariant

pub returns : goal.returns
returns c = sym (far_none c.args.new.now c.loop-pair.pair-index c.args.pairs.now (omega arith)) ∙ c.loop-pair.invariant
