use Rattle.std.proofs.Common.{arith, rules}
use Rattle.link_payload.proofs.NumberLemmas.{number_before}
use Rattle.link_payload.proofs.read.i64_at.Goals as goal

pub returns-clause-bytes : goal.returns-clause-bytes
returns-clause-bytes c =
    number_before _ _ _ _ c.requires (λ i. omega (arith, c.type_inv.bytes i)) c.split_at.ensures.front c.split_at.ensures.back c.read_i64.ensures (search rules)
