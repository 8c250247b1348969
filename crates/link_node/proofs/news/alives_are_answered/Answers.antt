use Rattle.link_node.proofs.NewsLemmas.{answered}
use Rattle.link_node.proofs.news.alives_are_answered.Goals as goal

pub returns : goal.returns
returns c = answered
