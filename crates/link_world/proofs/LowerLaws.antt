-- What the crates below say of a node's step and of messages, as `laws` collects it.
use Rattle.std.proofs.Common.{◌≡◌, ◌<◌, ◌⊎◌, ℕ, ℤ, List, ◌∷◌, length, Ok}
use Rattle.lk_base.specs.Ranges.{IsMoment}
use Rattle.lk_base.specs.declared.ids.NodeId.{NodeId}
use Rattle.lk_base.specs.declared.timeline.Timeline.{Timeline}
use Rattle.link_payload.specs.declared.fields.PingFields.{PingFields}
use Rattle.asdp_messages.specs.Datagram.{MessageValue, TellsNoState}
use Rattle.asdp_messages.specs.Reading.{reading_of}
use Rattle.asdp_messages.specs.Spelling.{Written, spelled_of}
use Rattle.asdp_messages.specs.Spelling as written
use Rattle.asdp_messages.specs.Written.{IsTidyWritten, Says}
use Rattle.asdp_messages.specs.declared.message.StateMsg.{StateMsg}
use Rattle.peer_gateway.specs.Happenings.{Has}
use Rattle.session_choice.specs.Best.{IsBest}
use Rattle.timeline_math.specs.Tidying.{tidy_of}
use Rattle.link_node.specs.Brought.{IsTakenIn, taken_in, made_by, Brings}
use Rattle.link_node.specs.Config.{ConfigValue, IsConfig}
use Rattle.link_node.specs.Event.{EventValue, Fits}
use Rattle.link_node.specs.Machine.{Machine, session_in, timeline_in}
use Rattle.link_node.specs.Opening.{opened}
use Rattle.link_node.specs.Staying.{IsFounded, IsFollowing, ShowsBest, Hears}
use Rattle.link_node.specs.Step.{step_of}
use Rattle.link_node.specs.WellFormed.{IsMachine}

pub record Laws : Type 0 where
  pub brought : (m : Machine) (e : EventValue) (session : NodeId) (tl : Timeline) → IsTakenIn (step_of m e) session tl
      → IsTakenIn m session tl ⊎ (Has (made_by m e) (session, tl) ⊎ Brings e session tl)
  pub best : (m : Machine) → IsBest (m.sessions.current.first ∷ m.sessions.current.later) (timeline_in m)
  pub opening : (config : ConfigValue) (now : ℤ) → IsConfig config → IsMoment now → IsMachine (opened config now)
  pub step : (m : Machine) (e : EventValue) → IsMachine m → Fits (length m.config.gates) m.app m.audio e → IsMachine (step_of m e)
  pub config : (m : Machine) (e : EventValue) → (step_of m e).config ≡ m.config
  pub founds : (m : Machine) (e : EventValue) → 0 < m.peers → (step_of m e).peers ≡ 0 → IsFounded m (step_of m e)
  pub alone : (m : Machine) (e : EventValue) → m.peers ≡ 0 → ((step_of m e).drawn ≡ m.drawn) × ((step_of m e).id ≡ m.id)
  pub among : (m : Machine) (e : EventValue) → 0 < (step_of m e).peers → ((step_of m e).drawn ≡ m.drawn) × ((step_of m e).id ≡ m.id)
  -- of clients and their sessions
  pub opening_shows : (config : ConfigValue) (now : ℤ) → IsMoment now → ShowsBest (opened config now)
  pub follows : (m : Machine) (e : EventValue) → IsFollowing m → IsFollowing (step_of m e)
  pub shown : (m : Machine) (e : EventValue) → (step_of m e).published.timeline ≡ (step_of m e).client
  -- of timelines that the current session has taken
  pub keeps : (m : Machine) (e : EventValue) (tl : Timeline) → IsMachine m → IsMachine (step_of m e) → (step_of m e).drawn ≡ m.drawn
      → session_in (step_of m e) ≡ session_in m → Has (taken_in m) tl → Has (taken_in (step_of m e)) tl
  pub takes : (m : Machine) (e : EventValue) (msg : StateMsg) → Hears m e msg → msg.fields.session ≡ session_in m
      → Has (taken_in (step_of m e)) (tidy_of msg.fields.timeline)
  pub read : (w : Written) (msg : MessageValue) → IsTidyWritten w → Says w msg → reading_of (spelled_of w) ≡ Ok msg
  pub ping : (ping : PingFields) → TellsNoState (reading_of (spelled_of (written.Ping ping)))
  pub pong : (session : NodeId) (ghost_time : ℤ) (echo : List ℕ) → TellsNoState (reading_of (spelled_of (written.Pong session ghost_time echo)))
