use Rattle.std.proofs.Common.{◌∙◌, sym, rules, append-nil}
use Rattle.link_node.specs.Broadcast.{broadcast_after, broadcast_in}
use Rattle.link_node.proofs.node.Node.broadcast.Goals as goal

pub returns-then-is_broadcast-clause-stands : goal.returns-then-is_broadcast-clause-stands
unfolding broadcast_after
returns-then-is_broadcast-clause-stands c m stands =
    rw (sym (c.is_broadcast.ensures m stands) ∙ c.if-is_broadcast.true) (search rules)

pub returns-then-is_broadcast-clause-sends : goal.returns-then-is_broadcast-clause-sends
unfolding broadcast_in
returns-then-is_broadcast-clause-sends c m stands =
    rw (sym (c.is_broadcast.ensures m stands) ∙ c.if-is_broadcast.true) (c.send_alives.ensures.sends m stands)

pub returns-else-is_broadcast-clause-stands : goal.returns-else-is_broadcast-clause-stands
unfolding broadcast_after
returns-else-is_broadcast-clause-stands c m stands =
    rw (sym (c.is_broadcast.ensures m stands) ∙ c.if-is_broadcast.false) stands

pub returns-else-is_broadcast-clause-sends : goal.returns-else-is_broadcast-clause-sends
unfolding broadcast_in
returns-else-is_broadcast-clause-sends c m stands =
    rw (sym (c.is_broadcast.ensures m stands) ∙ c.if-is_broadcast.false) (sym (append-nil _))
