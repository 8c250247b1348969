use Rattle.std.proofs.Common.{rules, ◌∙◌, sym}
use Rattle.link_node.specs.Commits.{start_committed}
use Rattle.link_node.proofs.node.Node.take_client_start.Goals as goal

pub returns-then-is_earlier-clause-stands : goal.returns-then-is_earlier-clause-stands
unfolding start_committed
returns-then-is_earlier-clause-stands c m stands =
    rw (c.in-Some.is, sym (c.is_earlier.ensures m stands) ∙ c.if-is_earlier.true) (c.hold_client_start.ensures.stands m stands)

pub returns-else-is_earlier-clause-stands : goal.returns-else-is_earlier-clause-stands
unfolding start_committed
returns-else-is_earlier-clause-stands c m stands =
    rw (c.in-Some.is, sym (c.is_earlier.ensures m stands) ∙ c.if-is_earlier.false) (search rules)

pub returns-in_default-clause-stands : goal.returns-in_default-clause-stands
unfolding start_committed
returns-in_default-clause-stands c m stands = rw c.in_default.is (search rules)
