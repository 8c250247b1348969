-- Which datagrams are read, as which messages.
use Rattle.std.specs.Prelude.{◌≡◌, ◌^◌, ◌<◌, ◌≤◌, ◌==◌, ◌||◌, ℕ, nat_lt, not, Bool, List, length, take, drop, slice_index, Option, Result, Ok, Err}
use Rattle.std.specs.Bool.{MatchBool}
use Rattle.std.specs.Result.{result_map_both}
use Rattle.byteorder.specs.Endian.{big_number}
use Rattle.lk_base.specs.declared.ids.NodeId.{NodeId}
use Rattle.link_payload.specs.declared.fault.PayloadFault.{PayloadFault}
use Rattle.link_payload.specs.declared.fields.PeerFields.{PeerFields}
use Rattle.link_payload.specs.declared.fields.PongFields.{PongFields}
use Rattle.link_payload.specs.Entries.{EntryValue, AreBytes, AreEntriesIn}
use Rattle.link_payload.specs.Fields.{AreInRange, AreTimesInRange, state_answer_of, pong_answer_of}
use Rattle.asdp_messages.specs.declared.fault.WireFault.{WireFault}
use Rattle.asdp_messages.specs.declared.fault.WireFault.TheVariants.{Short, NotLink, TooLong, Payload}
use Rattle.asdp_messages.specs.declared.message.Message.{Message}
use Rattle.asdp_messages.specs.declared.message.Message.TheVariants as message
use Rattle.asdp_messages.specs.declared.message.StateMsg.{StateMsg}

-- a message without where its bytes lie
pub data MessageValue : Type 0 where
  Alive : StateMsg → MessageValue
  Response : StateMsg → MessageValue
  Bye : (from : NodeId) (ttl group : ℕ) → MessageValue
  Ping : (payload : List ℕ) → MessageValue
  Pong : PongFields → MessageValue
  OtherDiscovery : (kind : ℕ) → MessageValue
  OtherLink : (kind : ℕ) → MessageValue

-- the numbers of a state, or the times of a pong, are in the ranges that are taken off the wire
abbrev pub IsInRange : MessageValue → Type 0
IsInRange (Alive m) = AreInRange m.fields
IsInRange (Response m) = AreInRange m.fields
IsInRange (Bye from ttl group) = Unit {0}
IsInRange (Ping payload) = Unit {0}
IsInRange (Pong fields) = AreTimesInRange fields
IsInRange (OtherDiscovery kind) = Unit {0}
IsInRange (OtherLink kind) = Unit {0}

-- a ping's payload has at most 503 bytes, as that of a datagram of at most 512 has
abbrev pub IsShortMessage : MessageValue → Type 0
IsShortMessage (Alive m) = Unit {0}
IsShortMessage (Response m) = Unit {0}
IsShortMessage (Bye from ttl group) = Unit {0}
IsShortMessage (Ping payload) = length payload ≤ 503
IsShortMessage (Pong fields) = Unit {0}
IsShortMessage (OtherDiscovery kind) = Unit {0}
IsShortMessage (OtherLink kind) = Unit {0}

-- no ping, or a short one
abbrev pub HasShortPing : Result MessageValue WireFault → Type 0
HasShortPing (Ok m) = IsShortMessage m
HasShortPing (Err fault) = Unit {0}

-- what a message of code says
abbrev pub message_value : Message → MessageValue
message_value (message.Alive m) = Alive m
message_value (message.Response m) = Response m
message_value (message.Bye from ttl group) = Bye from ttl group
message_value (message.Ping payload) = Ping payload.now
message_value (message.Pong fields) = Pong fields
message_value (message.OtherDiscovery kind) = OtherDiscovery kind
message_value (message.OtherLink kind) = OtherLink kind

-- what an answer of code says
abbrev pub answer_value : Result Message WireFault → Result MessageValue WireFault
answer_value (Ok m) = Ok (message_value m)
answer_value (Err fault) = Err fault

-- ---- the parts of a datagram

-- the first eight bytes are `_asdp_v` and 1
abbrev pub is_discovery : List ℕ → Bool
is_discovery bytes = big_number 8 bytes == 0x5f617364705f7601

-- the first eight bytes are `_link_v` and 1
abbrev pub is_link : List ℕ → Bool
is_link bytes = big_number 8 bytes == 0x5f6c696e6b5f7601

abbrev pub kind_in : List ℕ → ℕ
kind_in bytes = slice_index bytes 8

-- the time to live of a discovery datagram
abbrev pub ttl_in : List ℕ → ℕ
ttl_in bytes = slice_index bytes 9

abbrev pub group_in : List ℕ → ℕ
group_in bytes = big_number 2 (take 2 (drop 10 bytes))

abbrev pub sender_in : List ℕ → NodeId
sender_in bytes = record { 0 = take 8 (drop 12 bytes) }

-- a message with the header of a discovery datagram
abbrev pub state_message_in : List ℕ → PeerFields → StateMsg
state_message_in bytes fields = record { from = sender_in bytes; ttl = ttl_in bytes; group = group_in bytes; fields = fields }

-- ---- what is read

-- the payload's entries, and perhaps a cut, answer so
abbrev pub IsAnswer : {A : Type 0} → (List EntryValue → Option ℕ → Result A PayloadFault) → List ℕ → Result A PayloadFault → Type 0
IsAnswer answer_of payload answer =
    (es : List EntryValue) × (cut : Option ℕ) × AreEntriesIn payload es cut × (answer ≡ answer_of es cut)

-- Rule: An alive or a response has to have a state as its payload, and a pong a pong's; the payload's fault is the datagram's.
-- a message of the payload's answer, or the payload's fault
abbrev pub IsMessage : {A : Type 0} → (List EntryValue → Option ℕ → Result A PayloadFault) → (A → MessageValue) → List ℕ → Result MessageValue WireFault → Type 0
IsMessage {A} answer_of message_of payload answer =
    (read : Result A PayloadFault) × IsAnswer answer_of payload read × (answer ≡ result_map_both message_of (λ fault. Payload fault) read)

-- Rule: Of discovery datagrams the kind 1 is an alive, 2 a response and 3 a bye; another kind is read without its payload.
-- a discovery datagram of at least 20 bytes, by its kind
unfoldable pub IsDiscoveryReadAs : List ℕ → Result MessageValue WireFault → Type 0
IsDiscoveryReadAs bytes answer =
    MatchBool (kind_in bytes == 1) (IsMessage state_answer_of (λ fields. Alive (state_message_in bytes fields)) (drop 20 bytes) answer)
    (MatchBool (kind_in bytes == 2) (IsMessage state_answer_of (λ fields. Response (state_message_in bytes fields)) (drop 20 bytes) answer)
    (MatchBool (kind_in bytes == 3) (answer ≡ Ok (Bye (sender_in bytes) (ttl_in bytes) (group_in bytes)))
    (answer ≡ Ok (OtherDiscovery (kind_in bytes)))))

-- Rule: Of measurement datagrams the kind 1 is a ping, whose payload is all behind its nine bytes of header, and 2 a pong; another kind is
-- read without its payload.
-- a measurement datagram, by its kind
unfoldable pub IsLinkReadAs : List ℕ → Result MessageValue WireFault → Type 0
IsLinkReadAs bytes answer =
    MatchBool (kind_in bytes == 1) (answer ≡ Ok (Ping (drop 9 bytes)))
    (MatchBool (kind_in bytes == 2) (IsMessage pong_answer_of (λ fields. Pong fields) (drop 9 bytes) answer)
    (answer ≡ Ok (OtherLink (kind_in bytes))))

-- Rule: Of a datagram's faults the first is told: under 9 bytes, neither protocol's, over 512 bytes, a discovery datagram under 20, its
-- payload's fault.
unfoldable pub IsReadAs : List ℕ → Result MessageValue WireFault → Type 0
IsReadAs bytes answer =
    MatchBool (nat_lt (length bytes) 9) (answer ≡ Err (Short (length bytes)))
    (MatchBool (not (is_discovery bytes || is_link bytes)) (answer ≡ Err NotLink)
    (MatchBool (nat_lt 512 (length bytes)) (answer ≡ Err (TooLong (length bytes)))
    (MatchBool (is_link bytes) (IsLinkReadAs bytes answer)
    (MatchBool (nat_lt (length bytes) 20) (answer ≡ Err (Short (length bytes)))
    (IsDiscoveryReadAs bytes answer)))))

-- Rule: Every datagram is read as one message or has one fault.
abbrev pub AreAllRead : Type 0
AreAllRead =
    (bytes : List ℕ) → AreBytes bytes → length bytes < 2 ^ 32 → (reading : Result MessageValue WireFault) × IsReadAs bytes reading

-- it is read as no state of a peer
abbrev pub TellsNoState : Result MessageValue WireFault → Type 0
TellsNoState (Ok (Alive m)) = ⊥
TellsNoState (Ok (Response m)) = ⊥
TellsNoState (Ok (Bye from ttl group)) = Unit {0}
TellsNoState (Ok (Ping payload)) = Unit {0}
TellsNoState (Ok (Pong fields)) = Unit {0}
TellsNoState (Ok (OtherDiscovery kind)) = Unit {0}
TellsNoState (Ok (OtherLink kind)) = Unit {0}
TellsNoState (Err fault) = Unit {0}
