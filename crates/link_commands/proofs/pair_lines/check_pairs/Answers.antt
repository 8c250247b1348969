use Rattle.std.proofs.Common.{arith}
use Rattle.link_commands.proofs.PairLineLemmas.{says_some, pairs_more, pairs_whole}
use Rattle.link_commands.proofs.pair_lines.check_pairs.Goals as goal

pub loop-at-preserved : goal.loop-at-preserved
loop-at-preserved c =
    pairs_more c.args.text.now c.line_at-next.result.0.now c.loop-at.number c.loop-at.at c.line_at-next.result.1 c.loop-at.invariant
    c.line_at-next.ensures.lines c.line_at-next.ensures.further c.line_at-next.ensures.within
    (says_some c.line_at-next.result.0.now c.pair_of.result c.is_none.result c.pair_of.ensures.some c.is_none.ensures c.if-is_none.false)

pub returns-clause-lines : goal.returns-clause-lines
returns-clause-lines c = pairs_whole c.args.text.now c.loop-at.number c.loop-at.at c.loop-at.invariant (omega arith)
