use Rattle.link_node.proofs.OnGateLemmas.{sent_on_gates}
use Rattle.link_node.proofs.news.datagrams_go_out_on_gates.Goals as goal

pub returns : goal.returns
returns c = sent_on_gates
