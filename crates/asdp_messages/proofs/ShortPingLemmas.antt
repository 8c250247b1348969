-- A ping that is read has a payload of at most 503 bytes.
use Rattle.std.proofs.Common.{◌≡◌, refl, subst, sym, arith, ℕ, ◌≤◌, ◌==◌, ◌||◌, nat_lt, not, Bool, true, false, List, length, drop, Result, Ok, Err}
use Rattle.std.specs.Bool.{MatchBool}
use Rattle.std.specs.Result.{result_map_both}
use Rattle.std.proofs.lemmas.List.{length-drop}
use Rattle.std.proofs.lemmas.Bool.{ltb-false}
use Rattle.link_payload.specs.declared.fault.PayloadFault.{PayloadFault}
use Rattle.asdp_messages.specs.declared.fault.WireFault.{WireFault}
use Rattle.asdp_messages.specs.declared.fault.WireFault.TheVariants.{Short, NotLink, TooLong, Payload}
use Rattle.asdp_messages.specs.Datagram.{MessageValue, Alive, Response, Bye, Ping, Pong, OtherDiscovery, OtherLink, HasShortPing, IsShortMessage, IsReadAs, IsLinkReadAs, IsDiscoveryReadAs, is_discovery, is_link, kind_in, state_message_in, sender_in, ttl_in, group_in}
use Rattle.asdp_messages.proofs.DatagramLemmas.{Answer}

-- either outcome of a test
by_test : (b : Bool) (P Q R : Type 0) → (b ≡ true → P → R) → (b ≡ false → Q → R) → MatchBool b P Q → R
by_test true P Q R holds fails m = holds refl m
by_test false P Q R holds fails m = fails refl m

fault_short : (answer : Answer) (fault : WireFault) → answer ≡ Err fault → HasShortPing answer
fault_short answer fault e = let P : Answer → Type 0 = HasShortPing in subst P (sym e) tt

said_short : (answer : Answer) (m : MessageValue) → IsShortMessage m → answer ≡ Ok m → HasShortPing answer
said_short answer m short e = let P : Answer → Type 0 = HasShortPing in subst P (sym e) short

message_short : {A : Type 0} (message_of : A → MessageValue) → ((a : A) → IsShortMessage (message_of a)) → (answer : Answer)
    (read : Result A PayloadFault) → answer ≡ result_map_both message_of (λ fault. Payload fault) read → HasShortPing answer
message_short message_of each answer (Ok a) e = said_short answer (message_of a) (each a) e
message_short message_of each answer (Err fault) e = fault_short answer (Payload fault) e

link_short : (bytes : List ℕ) (answer : Answer) → length bytes ≤ 512 → IsLinkReadAs bytes answer → HasShortPing answer
unfolding IsLinkReadAs
link_short bytes answer long h =
    let rest : length (drop 9 bytes) ≤ 503 = omega (arith, length-drop 9 bytes) in
    by_test (kind_in bytes == 1) _ _ (HasShortPing answer)
    (λ holds e. said_short answer (Ping (drop 9 bytes)) rest e)
    (λ fails other.
    by_test (kind_in bytes == 2) _ _ (HasShortPing answer)
    (λ holds m. message_short (λ fields. Pong fields) (λ fields. tt) answer m.0 m.2)
    (λ fails e. said_short answer (OtherLink (kind_in bytes)) tt e)
    other)
    h

discovery_short : (bytes : List ℕ) (answer : Answer) → IsDiscoveryReadAs bytes answer → HasShortPing answer
unfolding IsDiscoveryReadAs
discovery_short bytes answer h =
    by_test (kind_in bytes == 1) _ _ (HasShortPing answer)
    (λ holds m. message_short (λ fields. Alive (state_message_in bytes fields)) (λ fields. tt) answer m.0 m.2)
    (λ fails second.
    by_test (kind_in bytes == 2) _ _ (HasShortPing answer)
    (λ holds m. message_short (λ fields. Response (state_message_in bytes fields)) (λ fields. tt) answer m.0 m.2)
    (λ fails third.
    by_test (kind_in bytes == 3) _ _ (HasShortPing answer)
    (λ holds e. said_short answer (Bye (sender_in bytes) (ttl_in bytes) (group_in bytes)) tt e)
    (λ fails e. said_short answer (OtherDiscovery (kind_in bytes)) tt e)
    third)
    second)
    h

-- a datagram of at most 512 bytes has a ping of at most 503
pub short_reading : (bytes : List ℕ) (answer : Answer) → IsReadAs bytes answer → HasShortPing answer
unfolding IsReadAs
short_reading bytes answer h =
    by_test (nat_lt (length bytes) 9) _ _ (HasShortPing answer)
    (λ holds e. fault_short answer (Short (length bytes)) e)
    (λ fails a.
    by_test (not (is_discovery bytes || is_link bytes)) _ _ (HasShortPing answer)
    (λ holds e. fault_short answer NotLink e)
    (λ fails b.
    by_test (nat_lt 512 (length bytes)) _ _ (HasShortPing answer)
    (λ holds e. fault_short answer (TooLong (length bytes)) e)
    (λ long c.
    by_test (is_link bytes) _ _ (HasShortPing answer)
    (λ holds link. link_short bytes answer (ltb-false 512 (length bytes) long) link)
    (λ fails d.
    by_test (nat_lt (length bytes) 20) _ _ (HasShortPing answer)
    (λ holds e. fault_short answer (Short (length bytes)) e)
    (λ fails e. discovery_short bytes answer e)
    d)
    c)
    b)
    a)
    h
