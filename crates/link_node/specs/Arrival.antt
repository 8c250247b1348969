-- A datagram that comes on a gate from an endpoint, by how it is read.
use Rattle.std.specs.Prelude.{ℕ, ◌==◌, nat_lt, Bool, not, ◌&&◌, List, [], ◌∷◌, length, if◌then◌else◌, Result, Ok, Err}
use Rattle.ghost_xform.specs.GhostTime.{ghost_of}
use Rattle.lk_base.specs.IdOrder.{same_id}
use Rattle.lk_base.specs.declared.endpoint.Endpoint.{Endpoint}
use Rattle.lk_base.specs.declared.endpoint.Gate.{Gate}
use Rattle.lk_base.specs.declared.ids.NodeId.{NodeId}
use Rattle.asdp_messages.specs.Datagram.{MessageValue}
use Rattle.asdp_messages.specs.Datagram as message
use Rattle.asdp_messages.specs.Spelling.{spelled_of}
use Rattle.asdp_messages.specs.Spelling as written
use Rattle.asdp_messages.specs.declared.fault.WireFault.{WireFault}
use Rattle.peer_gateway.specs.Happenings.{said_goodbye}
use Rattle.link_node.specs.Event.{SendingValue}
use Rattle.link_node.specs.Machine.{Machine, session_in, offset_in}
use Rattle.link_node.specs.Measuring.{pong_heard, pings_after_pong}
use Rattle.link_node.specs.Taking.{state_taken}
use Rattle.link_node.specs.Telling.{response_to}

-- Rule: A bye, alive or response of another group, or with the node's own id, isn't heard; pings and pongs have no group.
abbrev pub is_heard : NodeId → ℕ → Machine → Bool
is_heard id group m = not (same_id id m.id) && (group == m.config.group)

-- Rule: A ping with at most 32 bytes of payload is answered by a pong with the session, its ghost time and that payload; a longer ping
-- isn't answered.
unfoldable pub pongs_to : Gate → Endpoint → List ℕ → Machine → List SendingValue
pongs_to gate to payload m =
    if nat_lt 32 (length payload) then []
    else record {
      gate = gate;
      to = to;
      bytes = spelled_of (written.Pong (session_in m) (ghost_of (offset_in m) m.moment) payload);
    } ∷ []

-- Rule: A response that is heard is taken as an alive is.
-- what it changes: what isn't read changes nothing
abbrev pub arrived : Gate → Endpoint → Result MessageValue WireFault → Machine → Machine
arrived gate from (Ok (message.Alive msg)) m = if is_heard msg.from msg.group m then state_taken gate msg m else m
arrived gate from (Ok (message.Response msg)) m = if is_heard msg.from msg.group m then state_taken gate msg m else m
arrived gate from (Ok (message.Bye id ttl group)) m =
    if is_heard id group m then record m { life = said_goodbye gate id m.life } else m
arrived gate from (Ok (message.Ping payload)) m = m
arrived gate from (Ok (message.Pong pong)) m = pong_heard gate from pong m
arrived gate from (Ok (message.OtherDiscovery kind)) m = m
arrived gate from (Ok (message.OtherLink kind)) m = m
arrived gate from (Err fault) m = m

-- what is sent for it: a response carries the state as it is before the peer's is taken
abbrev pub answers_to : Gate → Endpoint → Result MessageValue WireFault → Machine → List SendingValue
answers_to gate from (Ok (message.Alive msg)) m = if is_heard msg.from msg.group m then response_to gate from m ∷ [] else []
answers_to gate from (Ok (message.Response msg)) m = []
answers_to gate from (Ok (message.Bye id ttl group)) m = []
answers_to gate from (Ok (message.Ping payload)) m = pongs_to gate from payload m
answers_to gate from (Ok (message.Pong pong)) m = pings_after_pong gate from pong m
answers_to gate from (Ok (message.OtherDiscovery kind)) m = []
answers_to gate from (Ok (message.OtherLink kind)) m = []
answers_to gate from (Err fault) m = []
