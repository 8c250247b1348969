use Rattle.link_node.proofs.NewsLemmas.{reached}
use Rattle.link_node.proofs.news.broadcasts_reach_all.Goals as goal

pub returns : goal.returns
returns c = reached
