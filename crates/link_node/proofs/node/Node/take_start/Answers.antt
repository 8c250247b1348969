use Rattle.std.proofs.Common.{rules, ◌∙◌, sym}
use Rattle.link_node.specs.Taking.{start_taken}
use Rattle.link_node.proofs.node.Node.take_start.Goals as goal

pub returns-then-is_current-clause-stands : goal.returns-then-is_current-clause-stands
unfolding start_taken
returns-then-is_current-clause-stands c m stands =
    rw (sym (c.is_current.ensures m stands) ∙ c.if-is_current.true) (c.hold_start.ensures.stands m stands)

pub returns-else-is_current-clause-stands : goal.returns-else-is_current-clause-stands
unfolding start_taken
returns-else-is_current-clause-stands c m stands =
    rw (sym (c.is_current.ensures m stands) ∙ c.if-is_current.false) (search rules)
