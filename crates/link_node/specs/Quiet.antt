-- Datagrams that a node passes over, and which event ends a peer's row.
use Rattle.std.specs.Prelude.{◌≡◌, ◌<◌, ◌≤ℤ◌, false, length, None, Result, Ok, Err}
use Rattle.std.specs.Int.{int_max}
use Rattle.lk_base.specs.declared.ids.NodeId.{NodeId}
use Rattle.asdp_messages.specs.Datagram.{MessageValue}
use Rattle.asdp_messages.specs.Datagram as message
use Rattle.asdp_messages.specs.Reading.{reading_of}
use Rattle.asdp_messages.specs.declared.fault.WireFault.{WireFault}
use Rattle.peer_gateway.specs.declared.row.PeerRow.{PeerRow}
use Rattle.link_node.specs.Arrival.{is_heard}
use Rattle.link_node.specs.Event.{EventValue, Rx, Tick, App, Audio, End}
use Rattle.link_node.specs.Machine.{Machine}

-- Rule: A datagram that isn't read, isn't heard or is of an unknown kind, a ping of over 32 bytes of payload, and a pong while nothing is
-- measured change nothing but the moment, and aren't answered.
-- It is no message, or of a kind that nobody takes; it is the node's own or of another group; it is a ping that is too long to be
-- answered, or a pong while nothing is measured
abbrev pub IsPassedOver : Machine → Result MessageValue WireFault → Type 0
IsPassedOver m (Ok (message.Alive msg)) = is_heard msg.from msg.group m ≡ false
IsPassedOver m (Ok (message.Response msg)) = is_heard msg.from msg.group m ≡ false
IsPassedOver m (Ok (message.Bye id ttl group)) = is_heard id group m ≡ false
IsPassedOver m (Ok (message.Ping payload)) = 32 < length payload
IsPassedOver m (Ok (message.Pong pong)) = m.measuring ≡ None
IsPassedOver m (Ok (message.OtherDiscovery kind)) = Unit {0}
IsPassedOver m (Ok (message.OtherLink kind)) = Unit {0}
IsPassedOver m (Err fault) = Unit {0}

-- the message is of the peer with this id
abbrev pub IsFrom : Result MessageValue WireFault → NodeId → Type 0
IsFrom (Ok (message.Alive msg)) id = msg.from ≡ id
IsFrom (Ok (message.Response msg)) id = msg.from ≡ id
IsFrom (Ok (message.Bye from ttl group)) id = from ≡ id
IsFrom (Ok (message.Ping payload)) id = ⊥
IsFrom (Ok (message.Pong pong)) id = ⊥
IsFrom (Ok (message.OtherDiscovery kind)) id = ⊥
IsFrom (Ok (message.OtherLink kind)) id = ⊥
IsFrom (Err fault) id = ⊥

-- Rule: A node's row of a peer ends at most at a datagram of that peer on that gate, at a tick at or after its limit, or at a founding.
abbrev pub EndsRow : Machine → EventValue → PeerRow → Type 0
EndsRow m (Rx gate from bytes now) row = (gate ≡ row.gate) × IsFrom (reading_of bytes) row.id
EndsRow m (Tick now) row = row.limit ≤ℤ int_max m.moment now
EndsRow m (App commit now) row = ⊥
EndsRow m (Audio number commit now) row = ⊥
EndsRow m (End now) row = ⊥
