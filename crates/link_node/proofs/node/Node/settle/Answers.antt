use Rattle.std.proofs.Common.{◌∙◌, sym}
use Rattle.link_node.specs.Settling.{settled, counted}
use Rattle.link_node.proofs.node.Node.settle.Goals as goal

pub returns-then-recount-clause-stands : goal.returns-then-recount-clause-stands
unfolding settled
returns-then-recount-clause-stands c m stands =
    rw (sym (c.recount.ensures.answer m stands) ∙ c.if-recount.true) (c.found.ensures.stands (counted m) (c.recount.ensures.stands m stands))

pub returns-else-recount-clause-stands : goal.returns-else-recount-clause-stands
unfolding settled
returns-else-recount-clause-stands c m stands =
    rw (sym (c.recount.ensures.answer m stands) ∙ c.if-recount.false) (c.recount.ensures.stands m stands)
