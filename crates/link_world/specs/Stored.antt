-- What the types of code say of values, for proofs alone.
use Rattle.std.specs.Prelude.{◌≡◌, ◌≤◌, ◌<◌, ◌^◌, length}
use Rattle.std.specs.List.{AllByRecursion}
use Rattle.lk_base.specs.Endpoint.{IsEndpoint}
use Rattle.lk_base.specs.declared.ids.NodeId.{NodeId}
use Rattle.link_payload.specs.Entries.{AreBytes}
use Rattle.link_node.specs.Config.{ConfigValue, GateValue}
use Rattle.link_node.specs.Event.{EventValue, Rx, Tick, App, Audio, End}

-- a datagram is at most 513 bytes
abbrev pub IsStoredEvent : EventValue → Type 0
IsStoredEvent (Rx gate from bytes now) = AreBytes bytes × (length bytes ≤ 513)
IsStoredEvent (Tick now) = Unit {0}
IsStoredEvent (App commit now) = Unit {0}
IsStoredEvent (Audio number commit now) = Unit {0}
IsStoredEvent (End now) = Unit {0}

-- an id has eight bytes
abbrev pub IsStoredId : NodeId → Type 0
IsStoredId id = length id.0 ≡ 8

abbrev pub IsStoredGate : GateValue → Type 0
IsStoredGate gate = IsEndpoint gate.local

-- the id has eight bytes, the group two, and each own endpoint an address of four and a port of two
pub record IsStoredConfig (config : ConfigValue) : Type 0 where
  pub id : IsStoredId config.id
  pub group : config.group < 2 ^ 16
  pub gates : AllByRecursion IsStoredGate config.gates
