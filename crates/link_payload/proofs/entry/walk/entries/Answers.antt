use Rattle.std.proofs.Common.{arith}
use Rattle.link_payload.proofs.WalkLemmas.{spelled_items, cut_items}
use Rattle.link_payload.proofs.entry.walk.entries.Goals as goal

pub returns-clause-spelled : goal.returns-clause-spelled
returns-clause-spelled c = λ es s. spelled_items _ es s

pub returns-clause-cut : goal.returns-clause-cut
returns-clause-cut c = λ n es s. cut_items _ n es (λ i. omega (arith, c.type_inv.payload i)) s
