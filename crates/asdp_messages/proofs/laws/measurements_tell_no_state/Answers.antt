use Rattle.asdp_messages.proofs.LinkLemmas.{ping_no_state, pong_no_state}
use Rattle.asdp_messages.proofs.laws.measurements_tell_no_state.Goals as goal

pub returns-clause-ping : goal.returns-clause-ping
returns-clause-ping c = ping_no_state

pub returns-clause-pong : goal.returns-clause-pong
returns-clause-pong c = pong_no_state
