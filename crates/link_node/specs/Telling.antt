-- What a node tells its peers of itself, and in which messages.
use Rattle.std.specs.Prelude.{ℕ, ◌+◌, List, [], ◌∷◌, ◌++◌, map, Option, Some, option_map, slice_get}
use Rattle.lk_base.specs.declared.endpoint.Endpoint.{Endpoint}
use Rattle.lk_base.specs.declared.endpoint.Gate.{Gate}
use Rattle.link_payload.specs.declared.fields.PeerFields.{PeerFields}
use Rattle.asdp_messages.specs.Spelling.{sent, spelled_of}
use Rattle.asdp_messages.specs.Spelling as written
use Rattle.link_node.specs.Config.{GateValue}
use Rattle.link_node.specs.Event.{SendingValue}
use Rattle.link_node.specs.Machine.{Machine, session_in, timeline_in, start_in}

-- the state of the current session, with where the node answers pings
abbrev pub fields_in : Option Endpoint → Machine → PeerFields
fields_in endpoint m = record { timeline = timeline_in m; session = session_in m; start = start_in m; endpoint = endpoint }

abbrev pub local_of : Gate → Machine → Option Endpoint
local_of gate m = option_map (λ g. g.local) (slice_get m.config.gates gate.0)

-- Rule: An alive that is heard is answered by one response, on its gate and to its sender, with the node's state before the alive is taken.
-- the response that goes out on a gate
unfoldable pub response_to : Gate → Endpoint → Machine → SendingValue
response_to gate to m =
    record { gate = gate; to = to; bytes = spelled_of (written.Response (sent m.id m.config.group (fields_in (local_of gate m) m))) }

-- ---- to all destinations

-- the alive and the bye that a gate sends
abbrev pub alive_of : Machine → GateValue → List ℕ
alive_of m gate = spelled_of (written.Alive (sent m.id m.config.group (fields_in (Some gate.local) m)))

abbrev pub bye_of : Machine → GateValue → List ℕ
bye_of m gate = spelled_of (written.Bye m.id 0 m.config.group)

-- from each of these gates, the first of which has the number k, to each of its destinations
unfoldable pub sent_from : (GateValue → List ℕ) → ℕ → List GateValue → List SendingValue
sent_from spelled k [] = []
sent_from spelled k (gate ∷ gates) =
    map (λ to. record { gate = record { 0 = k }; to = to; bytes = spelled gate }) gate.destinations
    ++ sent_from spelled (k + 1) gates

-- Rule: A broadcast sends an alive from each gate to each of its destinations, with that gate's endpoint.
unfoldable pub alives_in : Machine → List SendingValue
alives_in m = sent_from (alive_of m) 0 m.config.gates

-- Rule: At the end a bye goes from each gate to each of its destinations.
unfoldable pub byes_in : Machine → List SendingValue
byes_in m = sent_from (bye_of m) 0 m.config.gates
