use Rattle.std.proofs.Common.{arith}
use Rattle.link_payload.proofs.ValueLemmas.{endpoint_is}
use Rattle.link_payload.proofs.read.endpoint_of.Goals as goal

pub returns : goal.returns
returns c = endpoint_is _ _ _ _ _ c.u32_at-addr.ensures.bytes c.u16_at-port.ensures.bytes (omega arith) (omega arith)
