use Rattle.link_payload.proofs.FieldsLemmas.{length-state, length-ping, length-pong}
use Rattle.link_payload.proofs.laws.payload_lens.Goals as goal

pub returns-clause-state : goal.returns-clause-state
returns-clause-state c = length-state

pub returns-clause-ping : goal.returns-clause-ping
returns-clause-ping c = length-ping

pub returns-clause-pong : goal.returns-clause-pong
returns-clause-pong c = length-pong
