-- That what is spelled with the measurement header is read as no state.
use Rattle.std.proofs.Common.{◌≡◌, ℕ, ℤ, Bool, true, false, List, ◌++◌, length, drop, Result, Ok, Err, refl, sym, subst}
use Rattle.std.specs.Prelude.{◌==◌, ◌||◌, nat_lt, not, if◌then◌else◌}
use Rattle.std.specs.Result.{result_map_both}
use Rattle.lk_base.specs.declared.ids.NodeId.{NodeId}
use Rattle.link_payload.specs.declared.fault.PayloadFault.{PayloadFault}
use Rattle.link_payload.specs.declared.fields.PingFields.{PingFields}
use Rattle.link_payload.specs.declared.fields.PongFields.{PongFields}
use Rattle.link_payload.specs.Fields.{pong_answer_of}
use Rattle.link_payload.specs.Items.{entries_of, cut_of}
use Rattle.link_payload.specs.Spelling.{spelled_ping_of, spelled_pong_of}
use Rattle.asdp_messages.specs.Datagram.{MessageValue, Ping, Pong, OtherLink, TellsNoState, is_discovery, is_link, kind_in}
use Rattle.asdp_messages.specs.Reading.{reading_of, link_reading_of, discovery_reading_of, payload_reading_of}
use Rattle.asdp_messages.specs.Spelling.{spelled_of, spelled_link_header_of}
use Rattle.asdp_messages.specs.Spelling as written
use Rattle.asdp_messages.specs.declared.fault.WireFault.{WireFault}
use Rattle.asdp_messages.specs.declared.fault.WireFault.TheVariants.{Short, NotLink, TooLong, Payload}

either : (b : Bool) (x y : Result MessageValue WireFault) → TellsNoState x → TellsNoState y → TellsNoState (if b then x else y)
either true x y first second = first
either false x y first second = second

pong_read : (answer : Result PongFields PayloadFault) → TellsNoState (result_map_both (λ fields. Pong fields) (λ fault. Payload fault) answer)
pong_read (Ok fields) = tt
pong_read (Err fault) = tt

link_read : (bytes : List ℕ) → TellsNoState (link_reading_of bytes)
unfolding link_reading_of
link_read bytes =
    let pong = payload_reading_of pong_answer_of (λ fields. Pong fields) (drop 9 bytes) in
    either (kind_in bytes == 1) (Ok (Ping (drop 9 bytes))) (if kind_in bytes == 2 then pong else Ok (OtherLink (kind_in bytes))) tt
    (either (kind_in bytes == 2) pong (Ok (OtherLink (kind_in bytes))) (pong_read (pong_answer_of (entries_of (drop 9 bytes)) (cut_of (drop 9 bytes)))) tt)

no_state : (bytes : List ℕ) → is_link bytes ≡ true → TellsNoState (reading_of bytes)
unfolding reading_of
no_state bytes link =
    let rest = if nat_lt (length bytes) 20 then Err (Short (length bytes)) else discovery_reading_of bytes in
    let last = if is_link bytes then link_reading_of bytes else rest in
    let long = if nat_lt 512 (length bytes) then Err (TooLong (length bytes)) else last in
    let other = if not (is_discovery bytes || is_link bytes) then Err NotLink else long in
    either (nat_lt (length bytes) 9) (Err (Short (length bytes))) other tt
    (either (not (is_discovery bytes || is_link bytes)) (Err NotLink) long tt
    (either (nat_lt 512 (length bytes)) (Err (TooLong (length bytes))) last tt
    (subst (λ (t : Bool). TellsNoState (if t then link_reading_of bytes else rest)) (sym link) (link_read bytes))))

link_known : (kind : ℕ) (payload : List ℕ) → is_link (spelled_link_header_of kind ++ payload) ≡ true
unfolding spelled_link_header_of
link_known kind payload = refl

pub ping_no_state : (ping : PingFields) → TellsNoState (reading_of (spelled_of (written.Ping ping)))
unfolding spelled_of
ping_no_state ping = no_state (spelled_link_header_of 1 ++ spelled_ping_of ping) (link_known 1 (spelled_ping_of ping))

pub pong_no_state : (session : NodeId) (ghost_time : ℤ) (echo : List ℕ) → TellsNoState (reading_of (spelled_of (written.Pong session ghost_time echo)))
unfolding spelled_of
pong_no_state session ghost_time echo = no_state (spelled_link_header_of 2 ++ spelled_pong_of session ghost_time echo) (link_known 2 (spelled_pong_of session ghost_time echo))
