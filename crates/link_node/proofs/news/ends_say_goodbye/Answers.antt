use Rattle.link_node.proofs.NewsLemmas.{goodbye_said}
use Rattle.link_node.proofs.news.ends_say_goodbye.Goals as goal

pub returns : goal.returns
returns c = goodbye_said
