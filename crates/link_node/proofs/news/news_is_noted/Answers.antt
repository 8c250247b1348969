use Rattle.link_node.proofs.NewsLemmas.{new_noted, old_noted}
use Rattle.link_node.proofs.news.news_is_noted.Goals as goal

pub returns-clause-new : goal.returns-clause-new
returns-clause-new c = new_noted

pub returns-clause-old : goal.returns-clause-old
returns-clause-old c = old_noted
