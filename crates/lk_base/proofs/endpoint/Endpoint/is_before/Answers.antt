use Rattle.std.proofs.Common.{ap, ◌∙◌}
use Rattle.std.specs.Ordering.{is_lt}
use Rattle.lk_base.proofs.OrderLemmas.{is_lt-pair}
use Rattle.lk_base.proofs.endpoint.Endpoint.is_before.Goals as goal

pub returns : goal.returns
returns c = c.is_lt.ensures ∙ ap is_lt c.cmp.ensures ∙ is_lt-pair c.args.self.now.addr c.args.self.now.port c.args.other.now.addr c.args.other.now.port
