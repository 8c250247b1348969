use Rattle.std.proofs.Common.{◌≡◌, ◌+◌, ◌-◌, ◌≤◌, length, map, take, drop, All}
use Rattle.std.specs.String.{string_bytes}
use Rattle.arrayvec.specs.ArrayVec.{array_vec_len}
use Rattle.lk_base.specs.Endpoint.{IsEndpoint}
use Rattle.session_server.specs.Words.{gate_parts_of, to_part_of}
use Rattle.session_server.proofs.gates.destinations_from.Given as goal

abbrev pub invariant-loop-given : goal.invariant-loop-given
invariant-loop-given l =
    (map to_part_of l.peers.items ≡ take (length l.peers.items) (drop l.start (gate_parts_of (map string_bytes l.words))))
    × All IsEndpoint l.peers.items
    × (length l.peers.items ≤ 32)
    × (l.number ≡ l.start + length l.peers.items)
    × (l.number ≤ length (gate_parts_of (map string_bytes l.words)))

abbrev pub decreases-loop-given : goal.decreases-loop-given
decreases-loop-given l = 32 - array_vec_len l.peers
