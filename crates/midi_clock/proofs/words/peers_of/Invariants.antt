use Rattle.std.proofs.Common.{◌≡◌, ◌-◌, map, take, drop, All}
use Rattle.std.specs.String.{string_bytes}
use Rattle.arrayvec.specs.ArrayVec.{array_vec_len}
use Rattle.lk_base.specs.Endpoint.{IsEndpoint}
use Rattle.link_lines.specs.Words.{endpoint_text_of}
use Rattle.midi_clock.specs.Words.{places_of}
use Rattle.midi_clock.proofs.words.peers_of.Given as goal

abbrev pub invariant-loop-peers : goal.invariant-loop-peers
invariant-loop-peers l =
    (map endpoint_text_of l.peers.items ≡ take (array_vec_len l.peers) (drop 3 (places_of (map string_bytes l.words))))
    × All IsEndpoint l.peers.items

abbrev pub decreases-loop-peers : goal.decreases-loop-peers
decreases-loop-peers l = 32 - array_vec_len l.peers
