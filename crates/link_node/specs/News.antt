-- What is sent to whom, and what becomes of news.
use Rattle.std.specs.Prelude.{◌≡◌, ℕ, ◌⊎◌, ℤ, pos, ◌+ℤ◌, ◌≤ℤ◌, List, [], ◌∷◌, Some, true}
use Rattle.std.specs.Int.{int_max}
use Rattle.ghost_xform.specs.GhostTime.{ghost_of}
use Rattle.lk_base.specs.declared.endpoint.Endpoint.{Endpoint}
use Rattle.lk_base.specs.declared.endpoint.Gate.{Gate}
use Rattle.asdp_messages.specs.Spelling.{Written, spelled_of}
use Rattle.asdp_messages.specs.Spelling as written
use Rattle.asdp_messages.specs.declared.message.StateMsg.{StateMsg}
use Rattle.peer_gateway.specs.Happenings.{Has}
use Rattle.link_node.specs.Brought.{TellsOf}
use Rattle.link_node.specs.Event.{Tick, SendingValue}
use Rattle.link_node.specs.Machine.{Machine, session_in, offset_in}
use Rattle.link_node.specs.Step.{before_broadcast}
use Rattle.link_node.specs.Telling.{local_of}

-- one datagram on the gate to the endpoint, a response that tells the node's state and where it answers pings there
pub record IsResponse (m : Machine) (gate : Gate) (to : Endpoint) (sends : List SendingValue) : Type 0 where
  pub response : StateMsg
  pub only : sends ≡ record { gate = gate; to = to; bytes = spelled_of (written.Response response) } ∷ []
  pub tells : TellsOf m response
  pub ttl : response.ttl ≡ 5
  pub endpoint : response.fields.endpoint ≡ local_of gate m

-- among these is an alive that tells the state after settling
pub record HasAlive (m : Machine) (now : ℤ) (gate : Gate) (local to : Endpoint) (sends : List SendingValue) : Type 0 where
  pub alive : StateMsg
  pub there : Has sends (record { gate = gate; to = to; bytes = spelled_of (written.Alive alive) })
  pub tells : TellsOf (before_broadcast (Tick now) m) alive
  pub ttl : alive.ttl ≡ 5
  pub endpoint : alive.fields.endpoint ≡ Some local

-- a broadcast is due: each one so far was a quarter of a second before, or 50,000 microseconds where there is news
abbrev pub IsDue : Machine → ℤ → Type 0
IsDue m moment =
    ((last : ℤ) → m.last_broadcast ≡ Some last → (last +ℤ pos 250_000) ≤ℤ moment)
    ⊎ ((m.changed ≡ true) × ((last : ℤ) → m.last_broadcast ≡ Some last → (last +ℤ pos 50_000) ≤ℤ moment))

-- it is still to be told, or it was told now
abbrev pub IsNoted : Machine → Type 0
IsNoted m = (m.changed ≡ true) ⊎ (m.last_broadcast ≡ Some m.moment)

-- the pong that goes back
abbrev pub pong_of : Machine → Gate → Endpoint → List ℕ → ℤ → SendingValue
pong_of m gate to payload now =
    record { gate = gate; to = to; bytes = spelled_of (written.Pong (session_in m) (ghost_of (offset_in m) (int_max m.moment now)) payload) }

abbrev pub bye_to : Machine → Gate → Endpoint → SendingValue
bye_to m gate to = record { gate = gate; to = to; bytes = spelled_of (written.Bye m.id 0 m.config.group) }
