use Rattle.std.proofs.Common.{ap, ◌∙◌}
use Rattle.std.specs.Ordering.{is_lt}
use Rattle.lk_base.proofs.OrderLemmas.{is_lt-nat}
use Rattle.lk_base.proofs.endpoint.Gate.is_before.Goals as goal

pub returns : goal.returns
returns c = c.is_lt.ensures ∙ ap is_lt c.cmp.ensures ∙ is_lt-nat c.args.self.now.0 c.args.other.now.0
