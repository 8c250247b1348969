use Rattle.link_payload.proofs.BackLemmas.{pong_read_back}
use Rattle.link_payload.proofs.laws.pong_reads_back.Goals as goal

pub returns : goal.returns
returns c = pong_read_back
