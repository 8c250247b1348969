-- What a step keeps, and what it leads to.
use Rattle.std.specs.Prelude.{◌≡◌, ◌⊎◌, ◌+◌, neg_ℤ, List, [], ◌∷◌, IsTrue, Ok, Option, Some, None}
use Rattle.lk_base.specs.declared.ids.NodeId.{NodeId}
use Rattle.lk_base.specs.declared.timeline.Timeline.{Timeline}
use Rattle.asdp_messages.specs.Datagram as message
use Rattle.asdp_messages.specs.Reading.{reading_of}
use Rattle.asdp_messages.specs.declared.message.StateMsg.{StateMsg}
use Rattle.peer_gateway.specs.Answers.{seen_of}
use Rattle.peer_gateway.specs.Happenings.{Has}
use Rattle.peer_gateway.specs.declared.row.Seen.TheVariants as seen
use Rattle.session_choice.specs.History.{Taking}
use Rattle.client_state.specs.Timelines.{session_from_client_of, Follows}
use Rattle.client_state.specs.declared.commit.Commit.{Commit}
use Rattle.client_state.specs.declared.state.State.{State}
use Rattle.link_node.specs.Arrival.{is_heard}
use Rattle.link_node.specs.Event.{EventValue, Rx, Tick, App, Audio, End, moment_of, app_after, audio_after}
use Rattle.link_node.specs.Machine.{Machine, session_in, timeline_in, offset_in}
use Rattle.link_node.specs.Publishing.{shown}
use Rattle.link_node.specs.Settling.{id_drawn}
use Rattle.link_node.specs.Step.{at_moment}

-- the second is the first alone in a session of a new id, whose ghost time is 0 now
pub record IsFounded (m n : Machine) : Type 0 where
  pub drawn : n.drawn ≡ m.drawn + 1
  pub id : n.id ≡ id_drawn m.config.seed m.drawn
  pub session : session_in n ≡ id_drawn m.config.seed m.drawn
  pub offset : offset_in n ≡ neg_ℤ n.moment
  pub others : n.sessions.others ≡ []
  pub life : n.life ≡ []

-- the last of these, or the first where there are no later ones
abbrev pub last_of : State → List State → State
last_of first [] = first
last_of first (next ∷ later) = last_of next later

-- the session is the current one or another
abbrev pub IsKnownIn : Machine → NodeId → Type 0
IsKnownIn m session = (taking : Taking) × Has (m.sessions.current ∷ m.sessions.others) taking × (taking.session ≡ session)

-- Rule: A client has its session's tempo, and its time origin is the host time of the session's beat 0.
abbrev pub IsFollowing : Machine → Type 0
IsFollowing m = Follows (timeline_in m) m.client (offset_in m)

-- the state published last shows the client's timeline, which follows the first of greatest beat origin that the session has taken
pub record ShowsBest (m : Machine) : Type 0 where
  pub following : IsFollowing m
  pub shown : m.published.timeline ≡ m.client

-- the event tells the message, which is of another peer and in the node's group, and there is room for that peer's row
abbrev pub Hears : Machine → EventValue → StateMsg → Type 0
Hears m (Rx gate from bytes now) msg =
    ((reading_of bytes ≡ Ok (message.Alive msg)) ⊎ (reading_of bytes ≡ Ok (message.Response msg)))
    × IsTrue (is_heard msg.from msg.group m) × (seen_of gate msg.from m.life ≡ seen.TableFull → ⊥)
Hears m (Tick now) msg = ⊥
Hears m (App commit now) msg = ⊥
Hears m (Audio number commit now) msg = ⊥
Hears m (End now) msg = ⊥

-- the commit that the event is
abbrev pub commit_in : EventValue → Option Commit
commit_in (App commit now) = Some commit
commit_in (Audio number commit now) = Some commit
commit_in (Rx gate from bytes now) = None
commit_in (Tick now) = None
commit_in (End now) = None

-- the commit has a timeline, which has no greater origin to go to
abbrev pub IsSpent : Machine → Commit → Type 0
IsSpent m commit =
    (client : Timeline) × (commit.timeline ≡ Some client) × (session_from_client_of (timeline_in m) client commit.at (offset_in m) ≡ None)

-- the event is no commit that has a quantum
abbrev pub CarriesNoQuantum : EventValue → Type 0
CarriesNoQuantum e = (commit : Commit) → commit_in e ≡ Some commit → commit.quantum ≡ None

-- the node at the event's moment with its commit counted, and so with another state published, and all else as it was
abbrev pub only_counted : Machine → EventValue → Machine
only_counted m e = shown (record (at_moment (moment_of e) m) { app = app_after m.app e; audio = audio_after m.audio e })
