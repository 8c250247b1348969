use Rattle.std.proofs.Common.{arith}
use Rattle.link_commands.proofs.HexLineLemmas.{checked_more, checked_whole, checked_longest}
use Rattle.link_commands.proofs.hex_lines.longest_line.Goals as goal

pub loop-at-preserved : goal.loop-at-preserved
loop-at-preserved c =
    checked_more c.args.text.now c.line_at-next.result.0.now c.loop-at.number c.loop-at.at c.line_at-next.result.1 c.loop-at.longest c.max-longest.result
    c.loop-at.invariant c.line_at-next.ensures.lines c.line_at-next.ensures.further c.line_at-next.ensures.within c.line_at-next.ensures.short
    c.if-not-is_hex_line.ensures.good c.max-longest.ensures

pub returns-clause-lines : goal.returns-clause-lines
returns-clause-lines c = checked_whole c.args.text.now c.loop-at.number c.loop-at.at c.loop-at.longest c.loop-at.invariant (omega arith)

pub returns-clause-longest : goal.returns-clause-longest
returns-clause-longest c = checked_longest c.args.text.now c.loop-at.number c.loop-at.at c.loop-at.longest c.loop-at.invariant (omega arith)
