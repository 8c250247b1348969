-- What is written is read again.
use Rattle.std.proofs.Common.{◌≡◌, ℕ, ℤ, ◌^◌, ◌<◌, ◌≤◌, Bool, true, false, ◌||◌, if◌then◌else◌, is_some, ◌+◌, lit≤, List, [], ◌++◌, length, take, drop, None, Ok, refl, sym, ap, subst, ◌∙◌, append-nil, length-append, arith}
use Rattle.std.proofs.lemmas.List.{take_at, drop_at}
use Rattle.byteorder.specs.Numbers.{big_number-reads_back}
use Rattle.lk_base.specs.declared.ids.NodeId.{NodeId}
use Rattle.link_payload.specs.declared.fields.PeerFields.{PeerFields}
use Rattle.link_payload.specs.declared.fields.PingFields.{PingFields}
use Rattle.link_payload.specs.Entries.{EntryValue, Spells}
use Rattle.lk_base.specs.Ranges.{IsWithinLimit}
use Rattle.link_payload.specs.Fields.{IsStored, IsTidyFields, IsTidyPing, state_answer_of, pong_answer_of, echoing}
use Rattle.link_payload.specs.Spelling.{spelled_state_of, spelled_ping_of, spelled_pong_of}
use Rattle.lk_base.proofs.ByteLemmas.{id_with}
use Rattle.asdp_messages.specs.Datagram.{MessageValue, Alive, Response, Bye, Ping, Pong, is_discovery, is_link, kind_in, IsAnswer, IsDiscoveryReadAs, IsLinkReadAs, IsReadAs}
use Rattle.asdp_messages.specs.declared.message.StateMsg.{StateMsg}
use Rattle.asdp_messages.specs.Spelling.{Written, spelled_of, spelled_header_of, spelled_link_header_of}
use Rattle.asdp_messages.specs.Spelling as written
use Rattle.asdp_messages.specs.Written.{IsTidyMessage, IsTidyWritten, Says}
use Rattle.asdp_messages.proofs.HeaderLemmas.{length-header}
use Rattle.asdp_messages.proofs.DatagramLemmas.{Answer, IsHead, alive_read, response_read, bye_read, ping_read, pong_read, link_read, discovery_read}

-- ---- discovery messages

sender_of : (from : NodeId) (payload : List ℕ) → length from.0 ≡ 8 → id_with (take 8 (from.0 ++ payload)) ≡ from
sender_of from payload len = ap id_with (take_at from.0 payload 8 len)

head_of : (kind ttl group : ℕ) (from : NodeId) (payload : List ℕ) → group < 2 ^ 16 → length from.0 ≡ 8 → IsHead (spelled_header_of kind ttl group from ++ payload) kind ttl group from payload
unfolding spelled_header_of
head_of kind ttl group from payload fits len = record {
  kind_is = refl;
  ttl_is = refl;
  group_is = big_number-reads_back 2 group [] fits;
  sender_is = sender_of from payload len;
  payload_is = drop_at from.0 payload 8 len;
}

known_header : (kind ttl group : ℕ) (from : NodeId) (payload : List ℕ)
    → (is_discovery (spelled_header_of kind ttl group from ++ payload) ≡ true) × (is_link (spelled_header_of kind ttl group from ++ payload) ≡ false)
unfolding spelled_header_of
known_header kind ttl group from payload = (refl, refl)

long_header : (kind ttl group : ℕ) (from : NodeId) (payload : List ℕ) → length from.0 ≡ 8 → 20 ≤ length (spelled_header_of kind ttl group from ++ payload)
unfolding spelled_header_of
long_header kind ttl group from payload len = omega (arith, len, length-append from.0 payload)

-- a datagram with a header is read as its payload says
pub headed_read : (bytes : List ℕ) (kind ttl group : ℕ) (from : NodeId) (payload : List ℕ) (answer : Answer) → bytes ≡ spelled_header_of kind ttl group from ++ payload
    → length bytes ≤ 512 → group < 2 ^ 16 → length from.0 ≡ 8
    → ((whole : List ℕ) → IsHead whole kind ttl group from payload → IsDiscoveryReadAs whole answer) → IsReadAs bytes answer
headed_read bytes kind ttl group from payload answer is fits group_fits len read =
    let whole = spelled_header_of kind ttl group from ++ payload in
    let known = known_header kind ttl group from payload in
    let either : (is_discovery whole || is_link whole) ≡ true = ap (λ (t : Bool). t || is_link whole) known.0 in
    subst (λ (b : List ℕ). IsReadAs b answer) (sym is)
    (discovery_read whole answer (long_header kind ttl group from payload len) either (subst (λ (b : List ℕ). length b ≤ 512) is fits) known.1 (read whole (head_of kind ttl group from payload group_fits len)))

-- what a payload's law says: the fields are read again
abbrev pub ReadsBack : PeerFields → Type 0
ReadsBack f = (es : List EntryValue) × Spells (spelled_state_of f) es × (state_answer_of es None ≡ Ok f)

state_answer : (f : PeerFields) → ReadsBack f → IsAnswer state_answer_of (spelled_state_of f) (Ok f)
state_answer f back = (back.0, None, back.1, sym back.2)

-- what the payload's laws say of lengths
pub record Lens : Type 0 where
  pub state : (f : PeerFields) → IsStored f → length (spelled_state_of f) ≡ (if is_some f.endpoint then 87 else 73)
  pub ping : (p : PingFields) → length (spelled_ping_of p) ≡ (if is_some p.previous then 32 else 16)
  pub pong : (session : NodeId) (ghost_time : ℤ) (echo : List ℕ) → length session.0 ≡ 8 → length (spelled_pong_of session ghost_time echo) ≡ 32 + length echo

at_most : (test : Bool) (m n k : ℕ) → m ≤ k → n ≤ k → (if test then m else n) ≤ k
at_most true m n k e f = e
at_most false m n k e f = f

state_fits : Lens → (kind : ℕ) (m : StateMsg) → IsTidyMessage m → length (spelled_header_of kind m.ttl m.group m.from ++ spelled_state_of m.fields) ≤ 512
state_fits lens kind m tidy =
    let header = length-header kind m.ttl m.group m.from tidy.from in
    let state = lens.state m.fields tidy.stored in
    let most = at_most (is_some m.fields.endpoint) 87 73 87 (lit≤ tt) (lit≤ tt) in
    omega (arith, header, state, most, length-append (spelled_header_of kind m.ttl m.group m.from) (spelled_state_of m.fields))

pub alive_back : Lens → (m : StateMsg) → IsTidyMessage m → ReadsBack m.fields → IsReadAs (spelled_of (written.Alive m)) (Ok (Alive m))
unfolding spelled_of
alive_back lens m tidy back =
    headed_read _ 1 m.ttl m.group m.from (spelled_state_of m.fields) _ refl (state_fits lens 1 m tidy) tidy.group tidy.from
    (λ whole head. alive_read m.fields head (state_answer m.fields back))

pub response_back : Lens → (m : StateMsg) → IsTidyMessage m → ReadsBack m.fields → IsReadAs (spelled_of (written.Response m)) (Ok (Response m))
unfolding spelled_of
response_back lens m tidy back =
    headed_read _ 2 m.ttl m.group m.from (spelled_state_of m.fields) _ refl (state_fits lens 2 m tidy) tidy.group tidy.from
    (λ whole head. response_read m.fields head (state_answer m.fields back))

pub bye_back : (from : NodeId) (ttl group : ℕ) → group < 2 ^ 16 → length from.0 ≡ 8 → IsReadAs (spelled_of (written.Bye from ttl group)) (Ok (Bye from ttl group))
unfolding spelled_of
bye_back from ttl group fits len =
    headed_read _ 3 ttl group from [] _ (sym (append-nil (spelled_header_of 3 ttl group from))) (omega (arith, length-header 3 ttl group from len)) fits len
    (λ whole head. bye_read head)

-- ---- measurement messages

record IsLinkHead (bytes : List ℕ) (kind : ℕ) (payload : List ℕ) : Type 0 where
  discovery : is_discovery bytes ≡ false
  link : is_link bytes ≡ true
  kind_is : kind_in bytes ≡ kind
  payload_is : drop 9 bytes ≡ payload
  long : 9 ≤ length bytes

link_head_of : (kind : ℕ) (payload : List ℕ) → IsLinkHead (spelled_link_header_of kind ++ payload) kind payload
unfolding spelled_link_header_of
link_head_of kind payload = record { discovery = refl; link = refl; kind_is = refl; payload_is = refl; long = omega arith }

link_back : (bytes : List ℕ) (kind : ℕ) (payload : List ℕ) (answer : Answer) → bytes ≡ spelled_link_header_of kind ++ payload → length bytes ≤ 512
    → ((whole : List ℕ) → kind_in whole ≡ kind → drop 9 whole ≡ payload → IsLinkReadAs whole answer) → IsReadAs bytes answer
link_back bytes kind payload answer is fits read =
    let whole = spelled_link_header_of kind ++ payload in
    let head = link_head_of kind payload in
    let either : (is_discovery whole || is_link whole) ≡ true = ap (λ (t : Bool). is_discovery whole || t) head.link ∙ ap (λ (t : Bool). t || true) head.discovery in
    subst (λ (b : List ℕ). IsReadAs b answer) (sym is)
    (link_read whole answer head.long either (subst (λ (b : List ℕ). length b ≤ 512) is fits) head.link (read whole head.kind_is head.payload_is))

link_len : (kind : ℕ) (payload : List ℕ) → length (spelled_link_header_of kind ++ payload) ≡ 9 + length payload
unfolding spelled_link_header_of
link_len kind payload = omega arith

pub ping_back : Lens → (ping : PingFields) → IsReadAs (spelled_of (written.Ping ping)) (Ok (Ping (spelled_ping_of ping)))
unfolding spelled_of
ping_back lens ping =
    let most = at_most (is_some ping.previous) 32 16 32 (lit≤ tt) (lit≤ tt) in
    link_back _ 1 (spelled_ping_of ping) _ refl (omega (arith, link_len 1 (spelled_ping_of ping), lens.ping ping, most))
    (λ whole kind payload. ping_read whole (spelled_ping_of ping) kind payload)

abbrev pub PongReadsBack : NodeId → ℤ → PingFields → Type 0
PongReadsBack session ghost_time ping =
    (es : List EntryValue) × Spells (spelled_pong_of session ghost_time (spelled_ping_of ping)) es × (pong_answer_of es None ≡ Ok (echoing session ghost_time ping))

pub pong_back : Lens → (session : NodeId) (ghost_time : ℤ) (echo : List ℕ) (ping : PingFields) → length session.0 ≡ 8
    → echo ≡ spelled_ping_of ping → PongReadsBack session ghost_time ping → IsReadAs (spelled_of (written.Pong session ghost_time echo)) (Ok (Pong (echoing session ghost_time ping)))
unfolding spelled_of
pong_back lens session ghost_time echo ping len echo_is back =
    let payload = spelled_pong_of session ghost_time (spelled_ping_of ping) in
    let most = at_most (is_some ping.previous) 32 16 32 (lit≤ tt) (lit≤ tt) in
    let fits : length (spelled_link_header_of 2 ++ payload) ≤ 512 =
    omega (arith, link_len 2 payload, lens.pong session ghost_time (spelled_ping_of ping) len, lens.ping ping, most) in
    let whole_is : spelled_link_header_of 2 ++ spelled_pong_of session ghost_time echo ≡ spelled_link_header_of 2 ++ payload =
    ap (λ (e : List ℕ). spelled_link_header_of 2 ++ spelled_pong_of session ghost_time e) echo_is in
    link_back _ 2 payload _ whole_is (subst (λ (bytes : List ℕ). length bytes ≤ 512) (sym whole_is) fits)
    (λ whole kind payload_is. pong_read whole payload (Ok (echoing session ghost_time ping)) kind payload_is (back.0, None, back.1, sym back.2))

-- ---- all kinds

-- what the payload's laws say of reading
pub record Backs : Type 0 where
  pub state : (f : PeerFields) → IsStored f → IsTidyFields f → ReadsBack f
  pub pong : (session : NodeId) (ghost_time : ℤ) (ping : PingFields) → length session.0 ≡ 8 → IsWithinLimit ghost_time → IsTidyPing ping → PongReadsBack session ghost_time ping

abbrev IsReadSo : Written → MessageValue → Type 0
IsReadSo w m = IsReadAs (spelled_of w) (Ok m)

pub written_read : Lens → Backs → (w : Written) (m : MessageValue) → IsTidyWritten w → Says w m → IsReadAs (spelled_of w) (Ok m)
written_read lens backs (written.Alive s) m tidy says =
    subst (IsReadSo (written.Alive s)) (sym says) (alive_back lens s tidy (backs.state s.fields tidy.stored tidy.fields))
written_read lens backs (written.Response s) m tidy says =
    subst (IsReadSo (written.Response s)) (sym says) (response_back lens s tidy (backs.state s.fields tidy.stored tidy.fields))
written_read lens backs (written.Bye from ttl group) m tidy says =
    subst (IsReadSo (written.Bye from ttl group)) (sym says) (bye_back from ttl group tidy.1 tidy.2)
written_read lens backs (written.Ping ping) m tidy says =
    subst (IsReadSo (written.Ping ping)) (sym says) (ping_back lens ping)
written_read lens backs (written.Pong session ghost_time echo) m tidy says =
    subst (IsReadSo (written.Pong session ghost_time echo)) (sym says.3)
    (pong_back lens session ghost_time echo says.0 tidy.0 says.2 (backs.pong session ghost_time says.0 tidy.0 tidy.1 says.1))

-- ---- the writers

-- what was written part by part
pub joined : (items before empty header payload : List ℕ) → items ≡ before ++ payload → before ≡ empty ++ header → empty ≡ [] → items ≡ header ++ payload
joined items before empty header payload e f g = e ∙ ap (λ (bs : List ℕ). bs ++ payload) (f ∙ ap (λ (bs : List ℕ). bs ++ header) g)

-- bytes that are spelled so are read so
pub as_spelled : {bytes : List ℕ} (w : Written) (m : MessageValue) → bytes ≡ spelled_of w → IsReadAs (spelled_of w) (Ok m) → IsReadAs bytes (Ok m)
as_spelled w m is read = subst (λ (bs : List ℕ). IsReadAs bs (Ok m)) (sym is) read
