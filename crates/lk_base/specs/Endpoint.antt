-- Endpoints: the ranges of their numbers, and the order of endpoints and of gates.
use Rattle.std.specs.Prelude.{◌^◌, ◌<◌, ◌==◌, ◌&&◌, ◌||◌, nat_lt, Bool}
use Rattle.lk_base.specs.declared.endpoint.Endpoint.{Endpoint}
use Rattle.lk_base.specs.declared.endpoint.Gate.{Gate}

-- an address of four bytes and a port of two
abbrev pub IsEndpoint : Endpoint → Type 0
IsEndpoint e = (e.addr < 2 ^ 32) × (e.port < 2 ^ 16)

-- by the address, and by the port where that is the same
abbrev pub endpoint_lt : Endpoint → Endpoint → Bool
endpoint_lt a b = nat_lt a.addr b.addr || ((a.addr == b.addr) && nat_lt a.port b.port)

-- by the number
abbrev pub gate_lt : Gate → Gate → Bool
gate_lt a b = nat_lt a.0 b.0
