-- A peer that hears its session told, and stays in it.
use Rattle.std.specs.Prelude.{◌≡◌, ◌≤◌, ◌<◌, ℕ, ℤ, ◌⊎◌, ◌++◌, List, [], ◌∷◌, length, Some, slice_get}
use Rattle.lk_base.specs.declared.endpoint.Endpoint.{Endpoint}
use Rattle.lk_base.specs.declared.endpoint.Gate.{Gate}
use Rattle.lk_base.specs.declared.ids.NodeId.{NodeId}
use Rattle.lk_base.specs.declared.timeline.Timeline.{Timeline}
use Rattle.asdp_messages.specs.declared.message.StateMsg.{StateMsg}
use Rattle.timeline_math.specs.Tidying.{tidy_of}
use Rattle.link_node.specs.Event.{EventValue}
use Rattle.link_node.specs.Machine.{Machine, session_in, timeline_in}
use Rattle.link_node.specs.Staying.{Hears}
use Rattle.link_world.specs.World.{WorldValue, TurnValue, Deliver, Happens, IsAfter, Reaches, peer_of}

-- the peer of that number is in the session, and has drawn so many ids: who founds a session draws one
pub record IsIn (k : ℕ) (session : NodeId) (drawn : ℕ) (world : WorldValue) : Type 0 where
  pub machine : Machine
  pub there : slice_get world.machines k ≡ Some machine
  pub session_is : session_in machine ≡ session
  pub drawn_is : machine.drawn ≡ drawn

-- so it is before and after each of these turns
abbrev pub StaysIn : ℕ → NodeId → ℕ → WorldValue → List TurnValue → Type 0
StaysIn k session drawn world [] = IsIn k session drawn world
StaysIn k session drawn world (turn ∷ turns) =
    (between : WorldValue) × IsIn k session drawn world × Happens turn world between × StaysIn k session drawn between turns

-- in this turn the peer hears its session told with the timeline: by another peer, of its group, for whose row it has room
pub record IsTold (k : ℕ) (session : NodeId) (tl : Timeline) (turn : TurnValue) (before : WorldValue) : Type 0 where
  pub machine : Machine
  pub event : EventValue
  pub msg : StateMsg
  pub peer : peer_of turn ≡ k
  pub reaches : Reaches turn before machine event
  pub hears : Hears machine event msg
  pub session_is : session_in machine ≡ session
  pub told : msg.fields.session ≡ session
  pub timeline : tidy_of msg.fields.timeline ≡ tl

-- and stays in the session from then on
pub record IsToldAndStays (k : ℕ) (session : NodeId) (tl : Timeline) (turn : TurnValue) (before : WorldValue) (turns : List TurnValue) : Type 0 where
  pub told : IsTold k session tl turn before
  pub between : WorldValue
  pub happens : Happens turn before between
  pub drawn : ℕ
  pub stays : StaysIn k session drawn between turns

-- so it does in one of these turns
abbrev pub HearsTold : ℕ → NodeId → Timeline → WorldValue → List TurnValue → Type 0
HearsTold k session tl before [] = ⊥
HearsTold k session tl before (turn ∷ turns) =
    IsToldAndStays k session tl turn before turns ⊎ ((between : WorldValue) × Happens turn before between × HearsTold k session tl between turns)

-- ---- from one that holds the timeline

-- the peer of that number is in the session, and holds the timeline there
pub record Holds (k : ℕ) (session : NodeId) (tl : Timeline) (world : WorldValue) : Type 0 where
  pub machine : Machine
  pub there : slice_get world.machines k ≡ Some machine
  pub session_is : session_in machine ≡ session
  pub timeline_is : timeline_in machine ≡ tl

-- in this turn a peer that holds the timeline in the session, before the turn and after it, sends the datagram of that number
pub record SendsHolding (session : NodeId) (tl : Timeline) (index : ℕ) (turn : TurnValue) (before : WorldValue) : Type 0 where
  pub after : WorldValue
  pub happens : Happens turn before after
  pub holds : Holds (peer_of turn) session tl before
  pub still_holds : Holds (peer_of turn) session tl after
  pub is_new : (length before.sent ≤ index) × (index < length after.sent)

-- so one does in one of these turns
abbrev pub IsSentHolding : NodeId → Timeline → ℕ → WorldValue → List TurnValue → Type 0
IsSentHolding session tl index before [] = ⊥
IsSentHolding session tl index before (turn ∷ turns) =
    SendsHolding session tl index turn before ⊎ ((between : WorldValue) × Happens turn before between × IsSentHolding session tl index between turns)

-- in this turn the peer hears the datagram of that number in its session: an alive or response of another peer, of its group, for whose row
-- it has room
pub record HearsDatagram (k : ℕ) (session : NodeId) (index : ℕ) (turn : TurnValue) (before : WorldValue) : Type 0 where
  pub gate : Gate
  pub from : Endpoint
  pub now : ℤ
  pub delivers : turn ≡ Deliver index k gate from now
  pub machine : Machine
  pub event : EventValue
  pub msg : StateMsg
  pub reaches : Reaches turn before machine event
  pub hears : Hears machine event msg
  pub session_is : session_in machine ≡ session

-- the peer hears a datagram that a holder of the timeline sent before, whatever that one did since, and stays in the session from then on
pub record HearsHolder (k : ℕ) (session : NodeId) (tl : Timeline) (start : WorldValue) (turns : List TurnValue) : Type 0 where
  pub earlier : List TurnValue
  pub turn : TurnValue
  pub later : List TurnValue
  pub turns_are : turns ≡ earlier ++ turn ∷ later
  pub index : ℕ
  pub sent : IsSentHolding session tl index start earlier
  pub before : WorldValue
  pub led : IsAfter start earlier before
  pub hears : HearsDatagram k session index turn before
  pub after : WorldValue
  pub happens : Happens turn before after
  pub drawn : ℕ
  pub stays : StaysIn k session drawn after later

-- the peer holds the timeline after the first of these turns, and stays in the session from then on
pub record HoldsAndStays (k : ℕ) (session : NodeId) (tl : Timeline) (start : WorldValue) (turns : List TurnValue) : Type 0 where
  pub earlier : List TurnValue
  pub later : List TurnValue
  pub turns_are : turns ≡ earlier ++ later
  pub between : WorldValue
  pub led : IsAfter start earlier between
  pub holds : Holds k session tl between
  pub drawn : ℕ
  pub stays : StaysIn k session drawn between later
