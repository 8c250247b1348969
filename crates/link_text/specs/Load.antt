-- A generated run, a load: its config, its events from a seed, and what is told of it.
use Rattle.std.specs.Prelude.{◌≡◌, ℕ, ℤ, zero, suc, pos, ◌+◌, ◌*◌, ◌/◌, ◌%◌, true, List, [], ◌∷◌, ◌++◌, length, take, codes, if◌then◌else◌, nat_eq, nat_lt, Some, None, slice_get}
use Rattle.std.specs.Fmt.{decimal}
use Rattle.rand_pcg.specs.Lcg.{Lcg, started, increment_of}
use Rattle.rand_pcg.specs.Pcg.{multiplier_64}
use Rattle.lk_base.specs.Ids.{word_at}
use Rattle.lk_base.specs.declared.endpoint.Endpoint.{Endpoint}
use Rattle.lk_base.specs.declared.ids.NodeId.{NodeId}
use Rattle.link_payload.specs.declared.fields.PeerFields.{PeerFields}
use Rattle.asdp_messages.specs.Spelling.{sent, spelled_of}
use Rattle.asdp_messages.specs.Spelling as written
use Rattle.client_state.specs.Commit.{commit_between}
use Rattle.client_state.specs.Edits.{tempo_set_of}
use Rattle.client_state.specs.declared.commit.Commit.{Commit}
use Rattle.client_state.specs.declared.state.State.{State}
use Rattle.link_node.specs.Config.{ConfigValue}
use Rattle.link_node.specs.Event.{EventValue, Rx, Tick, App}
use Rattle.link_node.specs.Machine.{Machine, still}
use Rattle.link_node.specs.Opening.{opened}
use Rattle.link_node.specs.Runs.{replayed, published_by, sent_by}
use Rattle.link_lines.specs.Line.{line_of}
use Rattle.link_text.specs.ReplayText.{state_line_of}

-- ---- the words of the generator

abbrev pub load_source_of : ℕ → Lcg
load_source_of seed = started 64 multiplier_64 seed (increment_of 64 2)

-- Three words make an event: one says its kind, one how long after the event before it comes, one which peer it comes from, or which
-- tempo a commit sets. So many events came before it.
abbrev pub kind_word : ℕ → ℕ → ℕ
kind_word seed before = word_at (3 * before) (load_source_of seed)

abbrev pub step_word : ℕ → ℕ → ℕ
step_word seed before = word_at (3 * before + 1) (load_source_of seed)

abbrev pub peer_word : ℕ → ℕ → ℕ
peer_word seed before = word_at (3 * before + 2) (load_source_of seed)

-- ---- the moments

abbrev pub load_opening : ℕ
load_opening = 1_000_000

-- the moment of the last of so many events, from 1 to 20,000 microseconds after the one before it
unfoldable pub load_moment_after : ℕ → ℕ → ℕ
load_moment_after seed zero = load_opening
load_moment_after seed (suc before) = load_moment_after seed before + (1 + step_word seed before % 20_000)

-- ---- who takes part

-- LOADNODE
abbrev pub load_id : NodeId
load_id = record { 0 = codes "LOADNODE" }

-- 127.0.0.1 and a port
abbrev pub local_port : ℕ → Endpoint
local_port port = record { addr = 0x7f000001; port = port }

abbrev pub load_config_of : ℕ → ConfigValue
load_config_of seed = record {
  id = load_id;
  seed = seed;
  mpb = pos 500_000;
  sync = true;
  group = 0;
  quantum = pos 4_000_000;
  gates = record { local = local_port 20_808; destinations = local_port 20_809 ∷ [] } ∷ [];
}

-- PEER and the peer's number in four digits
abbrev pub peer_id_of : ℕ → NodeId
peer_id_of j = record { 0 = codes "PEER" ++ ((48 + j / 1_000 % 10) ∷ (48 + j / 100 % 10) ∷ (48 + j / 10 % 10) ∷ (48 + j % 10) ∷ []) }

abbrev pub peer_endpoint_of : ℕ → Endpoint
peer_endpoint_of j = local_port (30_000 + j)

-- ---- the events

-- the first eight peers tell the node's own session, each other one a session of its own
abbrev pub peer_session_of : ℕ → NodeId
peer_session_of j = if nat_lt j 8 then load_id else peer_id_of j

-- what a peer tells in the event before which there were so many: its tempo goes by its number, and its beat origin grows with the events
abbrev pub peer_fields_of : ℕ → ℕ → PeerFields
peer_fields_of before j = record {
  timeline = record { mpb = pos (400_000 + 1_000 * j); beat = pos (1_000 * (before + 1)); time = pos 0 };
  session = peer_session_of j;
  start = still;
  endpoint = Some (peer_endpoint_of j);
}

-- a datagram of a peer on the only gate
abbrev pub from_peer : ℕ → List ℕ → ℤ → EventValue
from_peer j bytes now = Rx (record { 0 = 0 }) (peer_endpoint_of j) bytes now

-- the state with another tempo from now on, as an application commits it
abbrev pub load_commit_of : ℕ → State → ℤ → Commit
load_commit_of word state now =
    commit_between state state (record state { timeline = tempo_set_of state.timeline (pos (300_000 + 100 * (word % 1_000))) now }) now

-- half of the events are alives, an eighth pings, a quarter ticks, and the rest byes of peers of even number and else commits
abbrev pub load_event_by : ℕ → ℕ → ℕ → ℕ → State → ℤ → EventValue
load_event_by kind j word before state now =
    if nat_lt kind 4 then from_peer j (spelled_of (written.Alive (sent (peer_id_of j) 0 (peer_fields_of before j)))) now
    else (if nat_eq kind 4 then from_peer j (spelled_of (written.Ping (record { host = now; previous = None }))) now
    else (if nat_lt kind 7 then Tick now
    else (if nat_eq (j % 2) 0 then from_peer j (spelled_of (written.Bye (peer_id_of j) 0 0)) now
    else App (load_commit_of word state now) now)))

-- the event before which there were so many, where the node shows this state
unfoldable pub load_event_of : ℕ → ℕ → State → EventValue
load_event_of seed before state =
    load_event_by (kind_word seed before % 8) (peer_word seed before % 16) (peer_word seed before) before state (pos (load_moment_after seed (before + 1)))

-- ---- the run

-- what a node with the load's config is after these events
abbrev pub load_machine_after : ℕ → List EventValue → Machine
load_machine_after seed es = replayed (load_config_of seed) (pos load_opening) es

-- each event is the load's, for the state that the node shows after those before it
abbrev pub AreLoadEvents : ℕ → List EventValue → Type 0
AreLoadEvents seed es =
    (k : ℕ) (e : EventValue) → slice_get es k ≡ Some e → e ≡ load_event_of seed k (load_machine_after seed (take k es)).published

-- ---- what is told of it

-- how many events there were, how many states with the opening one, and how many datagrams were sent
unfoldable pub load_line_of : ℕ → ℕ → ℕ → List ℕ
load_line_of events states sends = line_of (codes "load" ∷ decimal events ∷ decimal states ∷ decimal sends ∷ [])

abbrev pub load_opened : ℕ → Machine
load_opened seed = opened (load_config_of seed) (pos load_opening)

-- how much there was, and the state that was published last, by its number, with its session and quantum
unfoldable pub load_text_of : ℕ → List EventValue → List ℕ
load_text_of seed es =
    load_line_of (length es) (1 + length (published_by (load_opened seed) es)) (length (sent_by (load_opened seed) es))
    ++ state_line_of 2 (length (published_by (load_opened seed) es)) (load_machine_after seed es).published

pub record IsLoadText (seed count : ℕ) (text : List ℕ) : Type 0 where
  pub events : List EventValue
  pub in_turn : AreLoadEvents seed events
  pub so_many : length events ≡ count
  pub text_is : text ≡ load_text_of seed events

-- a seed and a number of events have one text
abbrev pub HasOneLoadText : Type 0
HasOneLoadText = (seed count : ℕ) (text other : List ℕ) → IsLoadText seed count text → IsLoadText seed count other → text ≡ other
