use Rattle.link_node.proofs.NewsLemmas.{short_answered, long_passed}
use Rattle.link_node.proofs.news.pings_are_answered.Goals as goal

pub returns-clause-short : goal.returns-clause-short
returns-clause-short c = short_answered

pub returns-clause-long : goal.returns-clause-long
returns-clause-long c = long_passed
