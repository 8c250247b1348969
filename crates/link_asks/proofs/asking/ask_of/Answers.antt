use Rattle.link_asks.proofs.LawLemmas.{none_asked}
use Rattle.link_asks.proofs.asking.ask_of.Goals as goal

pub returns-then-line-gt-LONGEST : goal.returns-then-line-gt-LONGEST
returns-then-line-gt-LONGEST c = none_asked c.args.line.now c.if-line-gt-LONGEST.true
