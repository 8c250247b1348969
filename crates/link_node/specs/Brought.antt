-- Where timelines come from, and what state messages tell.
use Rattle.std.specs.Prelude.{◌≡◌, List, [], ◌∷◌, ◌++◌, if◌then◌else◌, Option, Some, None, Result, Ok, Err}
use Rattle.std.specs.Int.{int_max}
use Rattle.ghost_xform.specs.GhostTime.{ghost_of}
use Rattle.lk_base.specs.declared.ids.NodeId.{NodeId}
use Rattle.lk_base.specs.declared.timeline.Timeline.{Timeline}
use Rattle.asdp_messages.specs.Datagram.{MessageValue}
use Rattle.asdp_messages.specs.Datagram as message
use Rattle.asdp_messages.specs.Reading.{reading_of}
use Rattle.asdp_messages.specs.Spelling.{Written, spelled_of}
use Rattle.asdp_messages.specs.Spelling as written
use Rattle.asdp_messages.specs.declared.fault.WireFault.{WireFault}
use Rattle.asdp_messages.specs.declared.message.StateMsg.{StateMsg}
use Rattle.peer_gateway.specs.Happenings.{Has}
use Rattle.session_choice.specs.History.{Taking}
use Rattle.timeline_math.specs.Tidying.{tidy_of}
use Rattle.client_state.specs.Timelines.{session_from_client_of}
use Rattle.client_state.specs.declared.commit.Commit.{Commit}
use Rattle.link_node.specs.Event.{EventValue, Rx, Tick, App, Audio, End, SendingValue, moment_of}
use Rattle.link_node.specs.Machine.{Machine, session_in, timeline_in, offset_in, start_in}
use Rattle.link_node.specs.Settling.{id_drawn, founding_timeline_in, is_left}
use Rattle.link_node.specs.Step.{at_moment, taken, before_broadcast}

-- ---- taken, made, read

-- a known session has taken the timeline
abbrev pub IsTakenIn : Machine → NodeId → Timeline → Type 0
IsTakenIn m session tl =
    (taking : Taking) × Has (m.sessions.current ∷ m.sessions.others) taking × (taking.session ≡ session) × Has (taking.first ∷ taking.later) tl

-- the timelines that the current session has taken
abbrev pub taken_in : Machine → List Timeline
taken_in m = m.sessions.current.first ∷ m.sessions.current.later

-- what the current session is given by a commit
abbrev pub given_of : Option Timeline → Machine → List (NodeId × Timeline)
given_of None m = []
given_of (Some session) m = (session_in m, session) ∷ []

abbrev pub given_by : Option Timeline → Commit → Machine → List (NodeId × Timeline)
given_by None commit m = []
given_by (Some client) commit m = given_of (session_from_client_of (timeline_in m) client commit.at (offset_in m)) m

abbrev pub committed_by : EventValue → Machine → List (NodeId × Timeline)
committed_by (App commit now) m = given_by commit.timeline commit m
committed_by (Audio number commit now) m = given_by commit.timeline commit m
committed_by (Rx gate from bytes now) m = []
committed_by (Tick now) m = []
committed_by (End now) m = []

-- the session that a node founds, by what it is after the event was taken
abbrev pub founded_by : Machine → List (NodeId × Timeline)
founded_by m = if is_left m then (id_drawn m.config.seed m.drawn, founding_timeline_in m) ∷ [] else []

-- the timelines that begin in a node's step, each with its session
unfoldable pub made_by : Machine → EventValue → List (NodeId × Timeline)
made_by m e = committed_by e m ++ founded_by (taken e (at_moment (moment_of e) m))

-- the message tells this session with this timeline, once that is tidied
abbrev pub TellsTimeline : Result MessageValue WireFault → NodeId → Timeline → Type 0
TellsTimeline (Ok (message.Alive msg)) session tl = (msg.fields.session ≡ session) × (tidy_of msg.fields.timeline ≡ tl)
TellsTimeline (Ok (message.Response msg)) session tl = (msg.fields.session ≡ session) × (tidy_of msg.fields.timeline ≡ tl)
TellsTimeline (Ok (message.Bye id ttl group)) session tl = ⊥
TellsTimeline (Ok (message.Ping payload)) session tl = ⊥
TellsTimeline (Ok (message.Pong pong)) session tl = ⊥
TellsTimeline (Ok (message.OtherDiscovery kind)) session tl = ⊥
TellsTimeline (Ok (message.OtherLink kind)) session tl = ⊥
TellsTimeline (Err fault) session tl = ⊥

abbrev pub Brings : EventValue → NodeId → Timeline → Type 0
Brings (Rx gate from bytes now) session tl = TellsTimeline (reading_of bytes) session tl
Brings (Tick now) session tl = ⊥
Brings (App commit now) session tl = ⊥
Brings (Audio number commit now) session tl = ⊥
Brings (End now) session tl = ⊥

-- ---- told

-- the state of a node, from it and in its group
pub record TellsOf (m : Machine) (msg : StateMsg) : Type 0 where
  pub from : msg.from ≡ m.id
  pub group : msg.group ≡ m.config.group
  pub session : msg.fields.session ≡ session_in m
  pub timeline : msg.fields.timeline ≡ timeline_in m
  pub start : msg.fields.start ≡ start_in m

-- A response tells the state of before the event, and an alive that of after settling. A bye is the node's own, in its group, and a pong
-- tells the session of before the event and its ghost time at the event's moment.
abbrev pub TellsBest : Machine → EventValue → Written → Type 0
TellsBest m e (written.Alive msg) = TellsOf (before_broadcast e m) msg
TellsBest m e (written.Response msg) = TellsOf m msg
TellsBest m e (written.Bye id ttl group) = (id ≡ m.id) × (group ≡ m.config.group)
TellsBest m e (written.Ping ping) = Unit {0}
TellsBest m e (written.Pong session ghost_time echo) =
    (session ≡ session_in m) × (ghost_time ≡ ghost_of (offset_in m) (int_max m.moment (moment_of e)))

abbrev pub IsToldIn : Machine → EventValue → SendingValue → Type 0
IsToldIn m e sending = (message : Written) × (sending.bytes ≡ spelled_of message) × TellsBest m e message
