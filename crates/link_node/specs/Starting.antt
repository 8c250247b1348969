-- Where starts come from.
use Rattle.std.specs.Prelude.{◌≡◌, Option, Some, Result, Ok, Err, IsTrue}
use Rattle.lk_base.specs.declared.start.ClientStart.{ClientStart}
use Rattle.lk_base.specs.declared.ids.NodeId.{NodeId}
use Rattle.lk_base.specs.declared.start.SessionStart.{SessionStart}
use Rattle.asdp_messages.specs.Datagram.{MessageValue}
use Rattle.asdp_messages.specs.Datagram as message
use Rattle.asdp_messages.specs.Reading.{reading_of}
use Rattle.asdp_messages.specs.declared.fault.WireFault.{WireFault}
use Rattle.client_state.specs.Starts.{start_to_session_of}
use Rattle.link_node.specs.Event.{EventValue, Rx, Tick, App, Audio, End}
use Rattle.link_node.specs.Machine.{Machine, session_in, timeline_in, offset_in}
use Rattle.link_node.specs.Step.{at_moment, taken}

-- the message tells this session with this start
abbrev pub TellsStart : Result MessageValue WireFault → NodeId → SessionStart → Type 0
TellsStart (Ok (message.Alive msg)) session start = (msg.fields.session ≡ session) × (msg.fields.start ≡ start)
TellsStart (Ok (message.Response msg)) session start = (msg.fields.session ≡ session) × (msg.fields.start ≡ start)
TellsStart (Ok (message.Bye id ttl group)) session start = ⊥
TellsStart (Ok (message.Ping payload)) session start = ⊥
TellsStart (Ok (message.Pong pong)) session start = ⊥
TellsStart (Ok (message.OtherDiscovery kind)) session start = ⊥
TellsStart (Ok (message.OtherLink kind)) session start = ⊥
TellsStart (Err fault) session start = ⊥

-- with sync, the image of a client's start, by the session's timeline and offset after the commit
abbrev pub IsImage : Option ClientStart → Machine → Machine → SessionStart → Type 0
IsImage client m n start =
    (given : ClientStart) × (client ≡ Some given) × IsTrue m.config.sync × (start_to_session_of given (timeline_in n) (offset_in n) ≡ start)

-- the event tells the start in the current session, or it is a commit that gives it
abbrev pub BringsStart : Machine → EventValue → SessionStart → Type 0
BringsStart m (Rx gate from bytes now) start = TellsStart (reading_of bytes) (session_in m) start
BringsStart m (Tick now) start = ⊥
BringsStart m (App commit now) start = IsImage commit.start m (taken (App commit now) (at_moment now m)) start
BringsStart m (Audio number commit now) start = IsImage commit.start m (taken (Audio number commit now) (at_moment now m)) start
BringsStart m (End now) start = ⊥
