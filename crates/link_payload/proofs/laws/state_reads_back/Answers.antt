use Rattle.link_payload.proofs.BackLemmas.{state_read_back}
use Rattle.link_payload.proofs.laws.state_reads_back.Goals as goal

pub returns : goal.returns
returns c = state_read_back
