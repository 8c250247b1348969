use Rattle.link_asks.proofs.LawLemmas.{asked_one, asked_short, reason_one}
use Rattle.link_asks.proofs.laws.ask_laws.Goals as goal

pub returns-clause-asks : goal.returns-clause-asks
returns-clause-asks c = record { one = asked_one; short = asked_short }

pub returns-clause-reasons : goal.returns-clause-reasons
returns-clause-reasons c = record { one = reason_one }
