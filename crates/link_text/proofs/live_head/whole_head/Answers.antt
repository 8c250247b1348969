use Rattle.link_text.proofs.LiveHeadLemmas.{line_behind, whole}
use Rattle.link_text.proofs.live_head.whole_head.Goals as goal

pub returns-then-start-text-clause-fault : goal.returns-then-start-text-clause-fault
returns-then-start-text-clause-fault c =
    line_behind c.args.text.now _ _ _ c.in-Ok.start.behind c.requires c.in-Ok.ensures.start c.if-start-text.true

pub returns-clause-head : goal.returns-clause-head
returns-clause-head c = whole c.args.text.now _ _ _ c.in-Ok.start.behind c.in-Ok.ensures.start c.if-start-text.false
