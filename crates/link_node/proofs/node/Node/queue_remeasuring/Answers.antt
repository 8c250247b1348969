use Rattle.std.proofs.Common.{rules, ◌∙◌, sym, None}
use Rattle.link_node.specs.Tick.{remeasure_queued}
use Rattle.link_node.proofs.node.Node.queue_remeasuring.Goals as goal

pub returns-then-is_remeasured-clause-stands : goal.returns-then-is_remeasured-clause-stands
unfolding remeasure_queued
returns-then-is_remeasured-clause-stands c m room stands =
    rw (sym (c.is_remeasured.ensures m stands) ∙ c.if-is_remeasured.true)
    (c.wait_once.ensures.stands (record m { remeasure_at = None }) room (search rules))

pub returns-else-is_remeasured-clause-stands : goal.returns-else-is_remeasured-clause-stands
unfolding remeasure_queued
returns-else-is_remeasured-clause-stands c m room stands =
    rw (sym (c.is_remeasured.ensures m stands) ∙ c.if-is_remeasured.false) (search rules)
