use Rattle.std.proofs.Common.{sym}
use Rattle.peer_gateway.proofs.AnswerLemmas.{had_found, had_none, none_left}
use Rattle.peer_gateway.proofs.LifeLemmas.{stands_goodbye}
use Rattle.peer_gateway.proofs.peers.Peers.bye.Goals as goal

pub returns-in-Ok-clause-answer : goal.returns-in-Ok-clause-answer
returns-in-Ok-clause-answer c life stands =
    sym (had_found c.args.gate c.args.id c.args.self.now life c.in-Ok.at stands c.in-Ok.ensures.place)

pub returns-in-Ok-clause-stands : goal.returns-in-Ok-clause-stands
returns-in-Ok-clause-stands c life stands = stands_goodbye c.args.gate c.args.id _ _ life stands c.end_row.ensures.ended

pub returns-in-Err-clause-answer : goal.returns-in-Err-clause-answer
returns-in-Err-clause-answer c life stands =
    sym (had_none c.args.gate c.args.id c.args.self.now life _ stands c.in-Err.ensures.place)

pub returns-in-Err-clause-stands : goal.returns-in-Err-clause-stands
returns-in-Err-clause-stands c life stands =
    stands_goodbye c.args.gate c.args.id _ _ life stands (none_left c.args.gate c.args.id _ _ c.in-Err.ensures.place)
