-- What a node's value stands for.
use Rattle.std.specs.Prelude.{◌≡◌, ℕ, ◌*◌, length, Option, Some, None}
use Rattle.rand_pcg.specs.Lcg.{started, increment_of}
use Rattle.rand_pcg.specs.Pcg.{multiplier_64}
use Rattle.lk_base.specs.Ids.{source_after}
use Rattle.peer_gateway.specs.Happenings as peers
use Rattle.ping_measure.specs.Life.{Life}
use Rattle.ping_measure.specs.Life as measure
use Rattle.ping_measure.specs.declared.measure.Measure.{Measure}
use Rattle.session_choice.specs.History as sessions
use Rattle.link_node.specs.Config.{config_value}
use Rattle.link_node.specs.Machine.{Machine, start_in}
use Rattle.link_node.specs.WellFormed.{IsMachine}
use Rattle.link_node.specs.declared.node.Node.{Node}

-- ---- what callers know with no machine at hand

abbrev pub gates_of : Node → ℕ
gates_of node = length node.config.gates.items

abbrev pub app_of : Node → ℕ
app_of node = node.app

abbrev pub audio_of : Node → ℕ
audio_of node = node.audio

-- ---- the machine

-- none, or one that stands for this life
abbrev pub AreMeasuring : Option Measure → Option Life → Type 0
AreMeasuring None None = Unit {0}
AreMeasuring None (Some life) = ⊥
AreMeasuring (Some kept) None = ⊥
AreMeasuring (Some kept) (Some life) = measure.StandsFor kept life

-- each field, whether or not the machine is well formed
pub record HasParts (node : Node) (m : Machine) : Type 0 where
  pub config : config_value node.config ≡ m.config
  pub moment : node.moment ≡ m.moment
  pub ids : node.ids ≡ source_after (8 * m.drawn) (started 64 multiplier_64 m.config.seed (increment_of 64 0))
  pub id : node.id ≡ m.id
  pub sessions : sessions.StandsFor node.sessions m.sessions
  pub session_start : node.session_start ≡ start_in m
  pub life : peers.StandsFor node.peers m.life
  pub peers : node.peer_count ≡ m.peers
  pub waiting : node.waiting.items ≡ m.waiting
  pub remeasure_at : node.remeasure_at ≡ m.remeasure_at
  pub measuring : AreMeasuring node.measure m.measuring
  pub last_broadcast : node.last_broadcast ≡ m.last_broadcast
  pub changed : node.changed ≡ m.changed
  pub client : node.client ≡ m.client
  pub client_start : node.client_start ≡ m.client_start
  pub quantum : node.quantum ≡ m.quantum
  pub app : node.app ≡ m.app
  pub audio : node.audio ≡ m.audio
  pub published : node.published ≡ m.published

pub record StandsFor (node : Node) (m : Machine) : Type 0 where
  pub parts : HasParts node m
  pub sound : IsMachine m
