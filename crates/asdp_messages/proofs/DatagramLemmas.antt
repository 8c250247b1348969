-- Datagrams by their parts, as they are read.
use Rattle.std.proofs.Common.{◌≡◌, ◌≢◌, ℕ, ◌<◌, ◌≤◌, Bool, true, false, eqb, ltb, ◌||◌, List, length, drop, Option, Some, None, Result, Ok, Err, refl, sym, ap, subst, ◌∙◌, inl, inr, arith}
use Rattle.std.specs.Bool.{MatchBool}
use Rattle.std.specs.Result.{result_map_both}
use Rattle.std.proofs.lemmas.Bool.{le-ltb, eq-eqb}
use Rattle.std.proofs.lemmas.Bool.Decides.{nat_tests}
use Rattle.byteorder.specs.Endian.{big_number}
use Rattle.lk_base.specs.declared.ids.NodeId.{NodeId}
use Rattle.link_payload.specs.declared.fault.PayloadFault.{PayloadFault}
use Rattle.link_payload.specs.declared.fields.PeerFields.{PeerFields}
use Rattle.link_payload.specs.declared.fields.PongFields.{PongFields}
use Rattle.link_payload.specs.Entries.{EntryValue, Spells, IsCutAt}
use Rattle.link_payload.specs.Fields.{state_answer_of, pong_answer_of}
use Rattle.link_payload.proofs.WalkLemmas.{SpelledOrCut}
use Rattle.asdp_messages.specs.declared.fault.WireFault.{WireFault}
use Rattle.asdp_messages.specs.declared.fault.WireFault.TheVariants.{Short, NotLink, TooLong, Payload}
use Rattle.asdp_messages.specs.declared.message.StateMsg.{StateMsg}
use Rattle.asdp_messages.specs.Datagram.{MessageValue, Alive, Response, Bye, Ping, Pong, OtherDiscovery, OtherLink, is_discovery, is_link, kind_in, ttl_in, group_in, sender_in, state_message_in, IsAnswer, IsMessage, IsDiscoveryReadAs, IsLinkReadAs, IsReadAs}

abbrev pub Answer : Type 0
Answer = Result MessageValue WireFault

-- ---- the answer of a payload

pub answer_from : {A : Type 0} (f : List EntryValue → Option ℕ → Result A PayloadFault) (payload : List ℕ) (r : Result A PayloadFault) → SpelledOrCut payload
    → ((es : List EntryValue) → Spells payload es → r ≡ f es None) → ((n : ℕ) (es : List EntryValue) → IsCutAt payload n es → r ≡ f es (Some n))
    → IsAnswer f payload r
answer_from f payload r (inl found) spelled cut = (found.0, None, found.1, spelled found.0 found.1)
answer_from f payload r (inr found) spelled cut = (found.1, Some found.0, found.2, cut found.0 found.1 found.2)

-- ---- a discovery datagram

-- what its header says, and its payload
pub record IsHead (bytes : List ℕ) (kind ttl group : ℕ) (from : NodeId) (payload : List ℕ) : Type 0 where
  pub kind_is : kind_in bytes ≡ kind
  pub ttl_is : ttl_in bytes ≡ ttl
  pub group_is : group_in bytes ≡ group
  pub sender_is : sender_in bytes ≡ from
  pub payload_is : drop 20 bytes ≡ payload

abbrev pub message_with : NodeId → ℕ → ℕ → PeerFields → StateMsg
message_with from ttl group fields = record { from = from; ttl = ttl; group = group; fields = fields }

abbrev pub ok : MessageValue → Answer
ok m = Ok m

state_message : (make : StateMsg → MessageValue) (bytes : List ℕ) (kind ttl group : ℕ) (from : NodeId) (payload : List ℕ) (fields : PeerFields)
    → IsHead bytes kind ttl group from payload → IsAnswer state_answer_of payload (Ok fields)
    → IsMessage state_answer_of (λ f. make (state_message_in bytes f)) (drop 20 bytes) (ok (make (message_with from ttl group fields)))
state_message make bytes kind ttl group from payload fields head answer =
    let read : Result PeerFields PayloadFault = Ok fields in
    let same : message_with (sender_in bytes) (ttl_in bytes) (group_in bytes) fields ≡ message_with from ttl group fields = rw (head.sender_is, head.ttl_is, head.group_is) refl in
    (read, subst (λ (p : List ℕ). IsAnswer state_answer_of p read) (sym head.payload_is) answer, ap (λ (m : StateMsg). ok (make m)) (sym same))

state_fault : (message_of : PeerFields → MessageValue) (bytes payload : List ℕ) (fault : PayloadFault) → drop 20 bytes ≡ payload → IsAnswer state_answer_of payload (Err fault)
    → IsMessage state_answer_of message_of (drop 20 bytes) (Err (Payload fault))
state_fault message_of bytes payload fault payload_is answer =
    let read : Result PeerFields PayloadFault = Err fault in
    (read, subst (λ (p : List ℕ). IsAnswer state_answer_of p read) (sym payload_is) answer, refl)

pub alive_read : {bytes : List ℕ} {ttl group : ℕ} {from : NodeId} {payload : List ℕ} (fields : PeerFields) → IsHead bytes 1 ttl group from payload
    → IsAnswer state_answer_of payload (Ok fields) → IsDiscoveryReadAs bytes (Ok (Alive (message_with from ttl group fields)))
unfolding IsDiscoveryReadAs
alive_read {bytes} {ttl} {group} {from} {payload} fields head answer =
    let first : eqb (kind_in bytes) 1 ≡ true = ap (λ (k : ℕ). eqb k 1) head.kind_is in
    rw first (state_message (λ m. Alive m) bytes 1 ttl group from payload fields head answer)

pub response_read : {bytes : List ℕ} {ttl group : ℕ} {from : NodeId} {payload : List ℕ} (fields : PeerFields) → IsHead bytes 2 ttl group from payload
    → IsAnswer state_answer_of payload (Ok fields) → IsDiscoveryReadAs bytes (Ok (Response (message_with from ttl group fields)))
unfolding IsDiscoveryReadAs
response_read {bytes} {ttl} {group} {from} {payload} fields head answer =
    let first : eqb (kind_in bytes) 1 ≡ false = ap (λ (k : ℕ). eqb k 1) head.kind_is in
    let second : eqb (kind_in bytes) 2 ≡ true = ap (λ (k : ℕ). eqb k 2) head.kind_is in
    rw (first, second) (state_message (λ m. Response m) bytes 2 ttl group from payload fields head answer)

fault_by : (bytes payload : List ℕ) (fault : PayloadFault) (first second : Bool) → (first || second) ≡ true → drop 20 bytes ≡ payload → IsAnswer state_answer_of payload (Err fault)
    → (other : Type 0) → MatchBool first (IsMessage state_answer_of (λ f. Alive (state_message_in bytes f)) (drop 20 bytes) (Err (Payload fault)))
    (MatchBool second (IsMessage state_answer_of (λ f. Response (state_message_in bytes f)) (drop 20 bytes) (Err (Payload fault))) other)
fault_by bytes payload fault true second known payload_is answer other = state_fault (λ f. Alive (state_message_in bytes f)) bytes payload fault payload_is answer
fault_by bytes payload fault false true known payload_is answer other = state_fault (λ f. Response (state_message_in bytes f)) bytes payload fault payload_is answer
fault_by bytes payload fault false false known payload_is answer other = absurd cc

pub state_fault_read : (bytes payload : List ℕ) (fault : PayloadFault) → (eqb (kind_in bytes) 1 || eqb (kind_in bytes) 2) ≡ true → drop 20 bytes ≡ payload
    → IsAnswer state_answer_of payload (Err fault) → IsDiscoveryReadAs bytes (Err (Payload fault))
unfolding IsDiscoveryReadAs
state_fault_read bytes payload fault known payload_is answer = fault_by bytes payload fault (eqb (kind_in bytes) 1) (eqb (kind_in bytes) 2) known payload_is answer _

bye_with : {from from' : NodeId} {ttl ttl' group group' : ℕ} → from ≡ from' → ttl ≡ ttl' → group ≡ group' → ok (Bye from ttl group) ≡ ok (Bye from' ttl' group')
bye_with e f g = rw (e, f, g) refl

pub bye_read : {bytes : List ℕ} {ttl group : ℕ} {from : NodeId} {payload : List ℕ} → IsHead bytes 3 ttl group from payload → IsDiscoveryReadAs bytes (Ok (Bye from ttl group))
unfolding IsDiscoveryReadAs
bye_read {bytes} {ttl} {group} {from} {payload} head =
    let first : eqb (kind_in bytes) 1 ≡ false = ap (λ (k : ℕ). eqb k 1) head.kind_is in
    let second : eqb (kind_in bytes) 2 ≡ false = ap (λ (k : ℕ). eqb k 2) head.kind_is in
    let third : eqb (kind_in bytes) 3 ≡ true = ap (λ (k : ℕ). eqb k 3) head.kind_is in
    rw (first, second, third) (bye_with (sym head.sender_is) (sym head.ttl_is) (sym head.group_is))

neither : (a b : Bool) → (a || b) ≡ false → (a ≡ false) × (b ≡ false)
neither true b is = absurd cc
neither false b is = (refl, is)

pub other_read : (bytes : List ℕ) → (eqb (kind_in bytes) 1 || eqb (kind_in bytes) 2) ≡ false → kind_in bytes ≢ 3 → IsDiscoveryReadAs bytes (Ok (OtherDiscovery (kind_in bytes)))
unfolding IsDiscoveryReadAs
other_read bytes known third =
    let two = neither (eqb (kind_in bytes) 1) (eqb (kind_in bytes) 2) known in
    let not_three : eqb (kind_in bytes) 3 ≡ false = grind (arith, nat_tests) in
    rw (two.0, two.1, not_three) refl

-- ---- a measurement datagram

pub ping_read : (bytes payload : List ℕ) → kind_in bytes ≡ 1 → drop 9 bytes ≡ payload → IsLinkReadAs bytes (Ok (Ping payload))
unfolding IsLinkReadAs
ping_read bytes payload kind_is payload_is =
    let first : eqb (kind_in bytes) 1 ≡ true = ap (λ (k : ℕ). eqb k 1) kind_is in
    rw first (ap (λ (p : List ℕ). ok (Ping p)) (sym payload_is))

pub pong_read : (bytes payload : List ℕ) (read : Result PongFields PayloadFault) → kind_in bytes ≡ 2 → drop 9 bytes ≡ payload → IsAnswer pong_answer_of payload read
    → IsLinkReadAs bytes (result_map_both (λ f. Pong f) (λ fault. Payload fault) read)
unfolding IsLinkReadAs
pong_read bytes payload read kind_is payload_is answer =
    let first : eqb (kind_in bytes) 1 ≡ false = ap (λ (k : ℕ). eqb k 1) kind_is in
    let second : eqb (kind_in bytes) 2 ≡ true = ap (λ (k : ℕ). eqb k 2) kind_is in
    rw (first, second) (read, subst (λ (p : List ℕ). IsAnswer pong_answer_of p read) (sym payload_is) answer, refl)

pub other_link_read : (bytes : List ℕ) → kind_in bytes ≢ 1 → kind_in bytes ≢ 2 → IsLinkReadAs bytes (Ok (OtherLink (kind_in bytes)))
unfolding IsLinkReadAs
other_link_read bytes first second =
    let not_one : eqb (kind_in bytes) 1 ≡ false = grind (arith, nat_tests) in
    let not_two : eqb (kind_in bytes) 2 ≡ false = grind (arith, nat_tests) in
    rw (not_one, not_two) refl

-- ---- any datagram

pub short_read : (bytes : List ℕ) → length bytes < 9 → IsReadAs bytes (Err (Short (length bytes)))
unfolding IsReadAs
short_read bytes short =
    let test : ltb (length bytes) 9 ≡ true = grind (arith, nat_tests) in rw test refl

pub not_link_read : (bytes : List ℕ) → 9 ≤ length bytes → (is_discovery bytes || is_link bytes) ≡ false → IsReadAs bytes (Err NotLink)
unfolding IsReadAs
not_link_read bytes long known =
    let test : ltb (length bytes) 9 ≡ false = le-ltb _ _ long in rw (test, known) refl

pub too_long_read : (bytes : List ℕ) → 9 ≤ length bytes → (is_discovery bytes || is_link bytes) ≡ true → 512 < length bytes → IsReadAs bytes (Err (TooLong (length bytes)))
unfolding IsReadAs
too_long_read bytes long known too_long =
    let test : ltb (length bytes) 9 ≡ false = le-ltb _ _ long in
    let length_test : ltb 512 (length bytes) ≡ true = grind (arith, nat_tests) in
    rw (test, known, length_test) refl

pub link_read : (bytes : List ℕ) (answer : Answer) → 9 ≤ length bytes → (is_discovery bytes || is_link bytes) ≡ true → length bytes ≤ 512
    → is_link bytes ≡ true → IsLinkReadAs bytes answer → IsReadAs bytes answer
unfolding IsReadAs
link_read bytes answer long known fits link read =
    let test : ltb (length bytes) 9 ≡ false = le-ltb _ _ long in
    let length_test : ltb 512 (length bytes) ≡ false = le-ltb _ _ fits in
    rw (test, known, length_test, link) read

pub short_head_read : (bytes : List ℕ) → 9 ≤ length bytes → (is_discovery bytes || is_link bytes) ≡ true → length bytes ≤ 512
    → is_link bytes ≡ false → length bytes < 20 → IsReadAs bytes (Err (Short (length bytes)))
unfolding IsReadAs
short_head_read bytes long known fits link short =
    let test : ltb (length bytes) 9 ≡ false = le-ltb _ _ long in
    let length_test : ltb 512 (length bytes) ≡ false = le-ltb _ _ fits in
    let head_test : ltb (length bytes) 20 ≡ true = grind (arith, nat_tests) in
    rw (test, known, length_test, link, head_test) refl

pub discovery_read : (bytes : List ℕ) (answer : Answer) → 20 ≤ length bytes → (is_discovery bytes || is_link bytes) ≡ true → length bytes ≤ 512
    → is_link bytes ≡ false → IsDiscoveryReadAs bytes answer → IsReadAs bytes answer
unfolding IsReadAs
discovery_read bytes answer long known fits link read =
    let test : ltb (length bytes) 9 ≡ false = le-ltb _ _ (omega arith) in
    let length_test : ltb 512 (length bytes) ≡ false = le-ltb _ _ fits in
    let head_test : ltb (length bytes) 20 ≡ false = le-ltb _ _ long in
    rw (test, known, length_test, link, head_test) read

-- ---- the tests of code

pub known_is : (bytes : List ℕ) (protocol : ℕ) (test : Bool) → protocol ≡ big_number 8 bytes → test ≡ (eqb protocol 0x5f617364705f7601 || eqb protocol 0x5f6c696e6b5f7601)
    → (is_discovery bytes || is_link bytes) ≡ test
known_is bytes protocol test is given = sym (given ∙ ap (λ (n : ℕ). eqb n 0x5f617364705f7601 || eqb n 0x5f6c696e6b5f7601) is)

pub link_is : (bytes : List ℕ) (protocol : ℕ) → protocol ≡ big_number 8 bytes → protocol ≡ 0x5f6c696e6b5f7601 → is_link bytes ≡ true
link_is bytes protocol is link = eq-eqb _ _ (sym is ∙ link)

pub not_link_is : (bytes : List ℕ) (protocol : ℕ) → protocol ≡ big_number 8 bytes → protocol ≢ 0x5f6c696e6b5f7601 → is_link bytes ≡ false
not_link_is bytes protocol is other =
    let not_it : big_number 8 bytes ≢ 0x5f6c696e6b5f7601 = λ e. other (is ∙ e) in grind (arith, nat_tests)

-- of two kinds the second, where it isn't the first
pub second_of : (kind : ℕ) → (eqb kind 1 || eqb kind 2) ≡ true → kind ≢ 1 → kind ≡ 2
second_of kind known first = grind (arith, nat_tests)
