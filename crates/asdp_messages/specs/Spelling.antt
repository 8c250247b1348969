-- How messages are spelled.
use Rattle.std.specs.Prelude.{ℕ, ℤ, List, [], ◌∷◌, ◌++◌, codes}
use Rattle.byteorder.specs.Endian.{big_bytes}
use Rattle.lk_base.specs.declared.ids.NodeId.{NodeId}
use Rattle.link_payload.specs.declared.fields.PeerFields.{PeerFields}
use Rattle.link_payload.specs.declared.fields.PingFields.{PingFields}
use Rattle.link_payload.specs.Spelling.{spelled_state_of, spelled_ping_of, spelled_pong_of}
use Rattle.asdp_messages.specs.declared.message.StateMsg.{StateMsg}

-- Rule: A discovery datagram begins with 20 bytes: `_asdp_v`, 1, the kind, the time to live in seconds, the group in two bytes and the
-- sender's id.
unfoldable pub spelled_header_of : ℕ → ℕ → ℕ → NodeId → List ℕ
spelled_header_of kind ttl group from =
    codes "_asdp_v" ++ 1 ∷ kind ∷ ttl ∷ (big_bytes 2 group ++ from.0)

-- Rule: A measurement datagram begins with 9 bytes: `_link_v`, 1 and the kind.
unfoldable pub spelled_link_header_of : ℕ → List ℕ
spelled_link_header_of kind = codes "_link_v" ++ 1 ∷ kind ∷ []

-- what is written, in one datagram each; a pong gives back the payload of a ping
pub data Written : Type 0 where
  Alive : StateMsg → Written
  Response : StateMsg → Written
  Bye : (from : NodeId) (ttl group : ℕ) → Written
  Ping : PingFields → Written
  Pong : (session : NodeId) (ghost_time : ℤ) (echo : List ℕ) → Written

-- the header of each kind, and its payload; a bye has none
unfoldable pub spelled_of : Written → List ℕ
spelled_of (Alive m) = spelled_header_of 1 m.ttl m.group m.from ++ spelled_state_of m.fields
spelled_of (Response m) = spelled_header_of 2 m.ttl m.group m.from ++ spelled_state_of m.fields
spelled_of (Bye from ttl group) = spelled_header_of 3 ttl group from
spelled_of (Ping ping) = spelled_link_header_of 1 ++ spelled_ping_of ping
spelled_of (Pong session ghost_time echo) = spelled_link_header_of 2 ++ spelled_pong_of session ghost_time echo

-- Rule: An alive and a response are written with a time to live of 5 seconds, and a bye with 0.
abbrev pub sent : NodeId → ℕ → PeerFields → StateMsg
sent from group fields = record { from = from; ttl = 5; group = group; fields = fields }
