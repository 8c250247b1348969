use Rattle.std.proofs.Common.{refl, arith}
use Rattle.link_adapters.proofs.SocketLemmas.{bits_of_made}
use Rattle.link_adapters.proofs.udp_port.address.address_of.Goals as goal

pub returns : goal.returns
returns c =
    rw (c.new.ensures.ip, c.new.ensures.port, bits_of_made c.from_bits.result c.args.endpoint.addr (omega arith) c.from_bits.ensures) refl
