use Rattle.std.proofs.Common.{ap, ◌∙◌}
use Rattle.std.specs.Ordering.{is_lt}
use Rattle.lk_base.proofs.OrderLemmas.{is_lt-bytes}
use Rattle.lk_base.proofs.ids.NodeId.is_before.Goals as goal

pub returns-clause-order : goal.returns-clause-order
returns-clause-order c = c.is_lt.ensures ∙ ap is_lt c.cmp.ensures

pub returns-clause-bytes : goal.returns-clause-bytes
returns-clause-bytes c = c.is_lt.ensures ∙ ap is_lt c.cmp.ensures ∙ is_lt-bytes c.args.self.now.0 c.args.other.now.0
