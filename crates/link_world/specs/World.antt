-- Peers and a network between them: what a schedule of turns leads to, whatever it loses, repeats or exchanges.
use Rattle.std.specs.Prelude.{◌≡◌, ℕ, ℤ, ◌⊎◌, ◌++◌, List, [], ◌∷◌, length, map, Option, Some, None, option_map, slice_get, slice_set}
use Rattle.lk_base.specs.declared.endpoint.Endpoint.{Endpoint}
use Rattle.lk_base.specs.declared.endpoint.Gate.{Gate}
use Rattle.link_node.specs.Config.{ConfigValue}
use Rattle.link_node.specs.Event.{EventValue, Rx, Tick, App, Audio, End, Fits, SendingValue, event_value}
use Rattle.link_node.specs.Machine.{Machine}
use Rattle.link_node.specs.Opening.{opened}
use Rattle.link_node.specs.Step.{step_of, sends_of}
use Rattle.link_world.specs.declared.turn.Turn.{Turn}
use Rattle.link_world.specs.declared.turn.Turn.TheVariants as turn

-- something happens to a peer of its own accord, or a datagram that was sent once comes to it, from wherever it is said to come
pub data TurnValue : Type 0 where
  Local : (peer : ℕ) → (event : EventValue) → TurnValue
  Deliver : (index : ℕ) → (peer : ℕ) → (gate : Gate) → (from : Endpoint) → (now : ℤ) → TurnValue

abbrev pub turn_value : Turn → TurnValue
turn_value (turn.Local peer event) = Local peer (event_value event)
turn_value (turn.Deliver index peer gate from now) = Deliver index peer gate from now

-- what each peer is, and every datagram ever sent, in order
pub record WorldValue : Type 0 where
  pub machines : List Machine
  pub sent : List SendingValue

-- all peers are opened at one moment, and nothing was sent
abbrev pub opened_world : List ConfigValue → ℤ → WorldValue
opened_world configs now = record { machines = map (λ config. opened config now) configs; sent = [] }

-- ---- one turn

abbrev pub peer_of : TurnValue → ℕ
peer_of (Local peer event) = peer
peer_of (Deliver index peer gate from now) = peer

-- a datagram comes by a delivery alone
abbrev pub unless_datagram : EventValue → Option EventValue
unless_datagram (Rx gate from bytes now) = None
unless_datagram (Tick now) = Some (Tick now)
unless_datagram (App commit now) = Some (App commit now)
unless_datagram (Audio number commit now) = Some (Audio number commit now)
unless_datagram (End now) = Some (End now)

-- Rule: A delivery brings a datagram as it was sent to any peer, on any gate, as often as one likes, so datagrams may be lost, repeated and
-- reordered.
-- the event that the turn brings to its peer, if there is one
abbrev pub brought_by : List SendingValue → TurnValue → Option EventValue
brought_by sent (Local peer event) = unless_datagram event
brought_by sent (Deliver index peer gate from now) = option_map (λ sending. Rx gate from sending.bytes now) (slice_get sent index)

-- the peer is there, the turn brings it this event, and it can take it
pub record Reaches (turn : TurnValue) (before : WorldValue) (machine : Machine) (event : EventValue) : Type 0 where
  pub there : slice_get before.machines (peer_of turn) ≡ Some machine
  pub brought : brought_by before.sent turn ≡ Some event
  pub fits : Fits (length machine.config.gates) machine.app machine.audio event

-- the peer takes the event: it makes its step, and what it sends is sent
abbrev pub stepped : TurnValue → WorldValue → Machine → EventValue → WorldValue
stepped turn before machine event = record {
  machines = slice_set before.machines (peer_of turn) (step_of machine event);
  sent = before.sent ++ sends_of machine event;
}

pub record IsStep (turn : TurnValue) (before after : WorldValue) : Type 0 where
  pub machine : Machine
  pub event : EventValue
  pub reaches : Reaches turn before machine event
  pub after_is : after ≡ stepped turn before machine event

-- where there is no such event, or no peer that can take it, nothing happens
pub record IsIdle (turn : TurnValue) (before after : WorldValue) : Type 0 where
  pub nothing_reaches : (machine : Machine) (event : EventValue) → Reaches turn before machine event → ⊥
  pub after_is : after ≡ before

abbrev pub Happens : TurnValue → WorldValue → WorldValue → Type 0
Happens turn before after = IsStep turn before after ⊎ IsIdle turn before after

-- ---- a schedule

-- the turns in order
abbrev pub IsAfter : WorldValue → List TurnValue → WorldValue → Type 0
IsAfter before [] after = after ≡ before
IsAfter before (turn ∷ turns) after = (between : WorldValue) × Happens turn before between × IsAfter between turns after

-- what a schedule leads to, from the opening on
abbrev pub IsWorldOf : List ConfigValue → ℤ → List TurnValue → WorldValue → Type 0
IsWorldOf configs now turns world = IsAfter (opened_world configs now) turns world

-- it leads to one world
abbrev pub HasOneWorld : Type 0
HasOneWorld =
    (before one other : WorldValue) (turns : List TurnValue) → IsAfter before turns one → IsAfter before turns other → one ≡ other
