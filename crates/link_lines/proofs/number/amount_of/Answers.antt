use Rattle.link_lines.proofs.NumberLemmas.{amount_low}
use Rattle.link_lines.proofs.number.amount_of.Goals as goal

pub returns-then-value-least-clause-none : goal.returns-then-value-least-clause-none
returns-then-value-least-clause-none c =
    let found = c.in-Some.ensures.some in
    amount_low c.args.word.now c.args.least c.args.limit c.in-Some.value found.1 c.if-value-least.true found.0 c.requires
