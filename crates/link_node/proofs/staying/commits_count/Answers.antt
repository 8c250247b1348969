use Rattle.link_node.proofs.CountingLemmas.{step-counts, step-start}
use Rattle.link_node.proofs.staying.commits_count.Goals as goal

pub returns-clause-timeline : goal.returns-clause-timeline
returns-clause-timeline c = step-counts c.one_best.ensures.there c.one_best.ensures.one

pub returns-clause-start : goal.returns-clause-start
returns-clause-start c = step-start
