-- The one reading of a datagram, as a function.
use Rattle.std.specs.Prelude.{ℕ, ◌==◌, ◌||◌, nat_lt, not, if◌then◌else◌, List, length, drop, Option, Result, Ok, Err}
use Rattle.std.specs.Result.{result_map_both}
use Rattle.link_payload.specs.declared.fault.PayloadFault.{PayloadFault}
use Rattle.link_payload.specs.Entries.{EntryValue}
use Rattle.link_payload.specs.Items.{entries_of, cut_of}
use Rattle.link_payload.specs.Fields.{state_answer_of, pong_answer_of}
use Rattle.asdp_messages.specs.declared.fault.WireFault.{WireFault}
use Rattle.asdp_messages.specs.declared.fault.WireFault.TheVariants.{Short, NotLink, TooLong, Payload}
use Rattle.asdp_messages.specs.Datagram.{MessageValue, Alive, Response, Bye, Ping, Pong, OtherDiscovery, OtherLink, is_discovery, is_link, kind_in, ttl_in, group_in, sender_in, state_message_in}

-- a message of what the payload's entries answer, or the payload's fault
abbrev pub payload_reading_of : {A : Type 0} → (List EntryValue → Option ℕ → Result A PayloadFault) → (A → MessageValue) → List ℕ → Result MessageValue WireFault
payload_reading_of answer_of message_of payload =
    result_map_both message_of (λ fault. Payload fault) (answer_of (entries_of payload) (cut_of payload))

-- a discovery datagram of at least 20 bytes, by its kind
unfoldable pub discovery_reading_of : List ℕ → Result MessageValue WireFault
discovery_reading_of bytes =
    if kind_in bytes == 1 then payload_reading_of state_answer_of (λ fields. Alive (state_message_in bytes fields)) (drop 20 bytes)
    else if kind_in bytes == 2 then payload_reading_of state_answer_of (λ fields. Response (state_message_in bytes fields)) (drop 20 bytes)
    else if kind_in bytes == 3 then Ok (Bye (sender_in bytes) (ttl_in bytes) (group_in bytes))
    else Ok (OtherDiscovery (kind_in bytes))

-- a measurement datagram, by its kind
unfoldable pub link_reading_of : List ℕ → Result MessageValue WireFault
link_reading_of bytes =
    if kind_in bytes == 1 then Ok (Ping (drop 9 bytes))
    else if kind_in bytes == 2 then payload_reading_of pong_answer_of (λ fields. Pong fields) (drop 9 bytes)
    else Ok (OtherLink (kind_in bytes))

-- the cases of `IsReadAs`, in their order
unfoldable pub reading_of : List ℕ → Result MessageValue WireFault
reading_of bytes =
    if nat_lt (length bytes) 9 then Err (Short (length bytes))
    else if not (is_discovery bytes || is_link bytes) then Err NotLink
    else if nat_lt 512 (length bytes) then Err (TooLong (length bytes))
    else if is_link bytes then link_reading_of bytes
    else if nat_lt (length bytes) 20 then Err (Short (length bytes))
    else discovery_reading_of bytes
