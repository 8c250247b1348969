-- The line that tells how a datagram is read: words parted by single spaces.
use Rattle.std.specs.Prelude.{ℕ, List, [], ◌∷◌, ◌≤◌, length, codes, Option, Some, None, Result, Ok, Err}
use Rattle.std.specs.Fmt.{decimal, signed_decimal}
use Rattle.std.specs.Int.{w32, to_be_bytes}
use Rattle.hex.specs.Hex.{encode_lower}
use Rattle.lk_base.specs.declared.ids.NodeId.{NodeId}
use Rattle.lk_base.specs.declared.endpoint.Endpoint.{Endpoint}
use Rattle.link_payload.specs.declared.fault.PayloadFault.{PayloadFault}
use Rattle.link_payload.specs.declared.fault.PayloadFault.TheVariants as payload
use Rattle.asdp_messages.specs.declared.message.StateMsg.{StateMsg}
use Rattle.asdp_messages.specs.declared.fault.WireFault.{WireFault}
use Rattle.asdp_messages.specs.declared.fault.WireFault.TheVariants as wire
use Rattle.asdp_messages.specs.Datagram.{MessageValue, Alive, Response, Bye, Ping, Pong, OtherDiscovery, OtherLink}
use Rattle.link_lines.specs.Words.{truth_text_of, endpoint_text_of}
use Rattle.link_lines.specs.Line.{line_of}

-- an id of eight bytes, in sixteen hex digits
unfoldable pub id_text_of : NodeId → List ℕ
id_text_of id = encode_lower id.0

-- a key, in eight hex digits
unfoldable pub key_text_of : ℕ → List ℕ
key_text_of key = encode_lower (to_be_bytes w32 key)

-- a payload in hex digits, and `-` for none
unfoldable pub payload_text_of : List ℕ → List ℕ
payload_text_of [] = codes "-"
payload_text_of (b ∷ bytes) = encode_lower (b ∷ bytes)

-- an endpoint, and `-` for none
unfoldable pub maybe_endpoint_text_of : Option Endpoint → List ℕ
maybe_endpoint_text_of None = codes "-"
maybe_endpoint_text_of (Some e) = endpoint_text_of e

-- who sent a state, for how long it counts and its group; the timeline; the session; the start; the endpoint
abbrev pub state_words_of : StateMsg → List (List ℕ)
state_words_of m =
    id_text_of m.from ∷ decimal m.ttl ∷ decimal m.group
    ∷ signed_decimal m.fields.timeline.mpb ∷ signed_decimal m.fields.timeline.beat ∷ signed_decimal m.fields.timeline.time
    ∷ id_text_of m.fields.session
    ∷ truth_text_of m.fields.start.playing ∷ signed_decimal m.fields.start.beats ∷ signed_decimal m.fields.start.stamp
    ∷ maybe_endpoint_text_of m.fields.endpoint ∷ []

-- Rule: A datagram that is decoded is told by the word of its kind and its fields, and `-` for what it lacks.
abbrev pub message_words_of : MessageValue → List (List ℕ)
message_words_of (Alive m) = codes "alive" ∷ state_words_of m
message_words_of (Response m) = codes "response" ∷ state_words_of m
message_words_of (Bye from ttl group) = codes "bye" ∷ id_text_of from ∷ decimal ttl ∷ decimal group ∷ []
message_words_of (Ping bytes) = codes "ping" ∷ payload_text_of bytes ∷ []
message_words_of (Pong f) =
    codes "pong" ∷ id_text_of f.session ∷ signed_decimal f.ghost_time ∷ signed_decimal f.host ∷ signed_decimal f.previous ∷ []
message_words_of (OtherDiscovery kind) = codes "other" ∷ codes "discovery" ∷ decimal kind ∷ []
message_words_of (OtherLink kind) = codes "other" ∷ codes "link" ∷ decimal kind ∷ []

abbrev pub payload_fault_words_of : PayloadFault → List (List ℕ)
payload_fault_words_of (payload.Cut at) = codes "cut" ∷ decimal at ∷ []
payload_fault_words_of (payload.WrongSize key size) = codes "size" ∷ key_text_of key ∷ decimal size ∷ []
payload_fault_words_of (payload.Missing key) = codes "missing" ∷ key_text_of key ∷ []
payload_fault_words_of (payload.OutOfRange key value) = codes "range" ∷ key_text_of key ∷ signed_decimal value ∷ []

-- Rule: A datagram that isn't read is told by `fault`, the fault's word and its place, key, size or number.
abbrev pub fault_words_of : WireFault → List (List ℕ)
fault_words_of (wire.Short len) = codes "short" ∷ decimal len ∷ []
fault_words_of wire.NotLink = codes "notlink" ∷ []
fault_words_of (wire.TooLong len) = codes "toolong" ∷ decimal len ∷ []
fault_words_of (wire.Payload fault) = payload_fault_words_of fault

abbrev pub reading_words_of : Result MessageValue WireFault → List (List ℕ)
reading_words_of (Ok m) = message_words_of m
reading_words_of (Err fault) = codes "fault" ∷ fault_words_of fault

unfoldable pub reading_line_of : Result MessageValue WireFault → List ℕ
reading_line_of reading = line_of (reading_words_of reading)

-- a ping's payload has at most 503 bytes, as that of a datagram of at most 512 has
abbrev pub IsShortMessage : MessageValue → Type 0
IsShortMessage (Ping bytes) = length bytes ≤ 503
IsShortMessage (Alive m) = Unit {0}
IsShortMessage (Response m) = Unit {0}
IsShortMessage (Bye from ttl group) = Unit {0}
IsShortMessage (Pong f) = Unit {0}
IsShortMessage (OtherDiscovery kind) = Unit {0}
IsShortMessage (OtherLink kind) = Unit {0}
