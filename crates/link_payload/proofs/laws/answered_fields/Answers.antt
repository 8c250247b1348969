use Rattle.link_payload.proofs.AnsweredLemmas.{state_answered, pong_answered}
use Rattle.link_payload.proofs.laws.answered_fields.Goals as goal

pub returns-clause-state : goal.returns-clause-state
returns-clause-state c = state_answered

pub returns-clause-pong : goal.returns-clause-pong
returns-clause-pong c = pong_answered
