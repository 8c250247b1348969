use Rattle.link_clients.proofs.KeptLemmas.{asked_of_kept, reason_of_kept}
use Rattle.link_clients.proofs.seat.asked_in.Goals as goal

pub returns-clause-asked : goal.returns-clause-asked
returns-clause-asked c = λ whole is. asked_of_kept c.ask_laws.ensures.asks whole c.args.line.now _ is c.ask_of.ensures

pub returns-clause-reason : goal.returns-clause-reason
returns-clause-reason c = λ whole is none. reason_of_kept whole c.args.line.now _ is c.reason_of.ensures
