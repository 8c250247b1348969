use Rattle.std.proofs.Common.{rules}
use Rattle.peer_gateway.proofs.NumberLemmas.{same_number}
use Rattle.peer_gateway.proofs.row.is_same.Goals as goal

pub returns : goal.returns
returns c =
    same_number c.args.a.now c.args.b.now c.u64_at-first.result.0 c.u64_at-second.result.0 c.u64_at-first.result.1.now c.u64_at-second.result.1.now
    (search rules) (search rules) (search rules) (search rules) c.u64_at-first.ensures.bytes c.u64_at-second.ensures.bytes
