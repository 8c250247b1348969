-- What always holds of a node.
use Rattle.std.specs.Prelude.{◌≡◌, ◌≤◌, Bool, true, false, List, ◌∷◌, length, map, IsSome, IfSome, IsTrue, is_some}
use Rattle.std.specs.List.{AllByRecursion}
use Rattle.lk_base.specs.IdOrder.{same_id}
use Rattle.lk_base.specs.Ranges.{IsWithinLimit, IsMoment, IsQuantum}
use Rattle.lk_base.specs.Timeline.{IsTidy}
use Rattle.lk_base.specs.declared.ids.NodeId.{NodeId}
use Rattle.lk_base.specs.declared.start.SessionStart.{SessionStart}
use Rattle.peer_gateway.specs.Answers.{peers_in}
use Rattle.ping_measure.specs.Life.{is_over}
use Rattle.session_choice.specs.History.{Taking, session_of, known_in}
use Rattle.session_choice.specs.Table.{AreDistinctBy}
use Rattle.client_state.specs.Commit.{IsTidyStart}
use Rattle.client_state.specs.State.{IsTidyState}
use Rattle.link_node.specs.Config.{IsConfig}
use Rattle.link_node.specs.Machine.{Machine, session_in}
use Rattle.link_node.specs.Publishing.{alike, state_in}
use Rattle.link_node.specs.Tick.{is_waiting}

-- no id stands there twice
abbrev pub AreDistinct : List NodeId → Type 0
AreDistinct ids = AreDistinctBy (λ id. id) ids

abbrev pub AreTidyTimelines : Taking → Type 0
AreTidyTimelines taking = AllByRecursion IsTidy (taking.first ∷ taking.later)

abbrev pub IsInLimits : SessionStart → Type 0
IsInLimits start = IsWithinLimit start.beats × IsWithinLimit start.stamp

-- the session is the current one or another
abbrev pub is_known : Machine → NodeId → Bool
is_known m session = is_some (known_in session m.sessions)

-- No session is known twice, and at most 64 others are. A session waits once, is known then, and isn't measured; one that is measured is
-- known, and its measurement goes on. Where the current one is to be measured anew later, it neither waits nor is measured.
pub record AreSessions (m : Machine) : Type 0 where
  pub distinct : AreDistinct (session_in m ∷ map session_of m.sessions.others)
  pub few : length m.sessions.others ≤ 64
  pub waiting_known : AllByRecursion (λ session. IsTrue (is_known m session)) m.waiting
  pub waiting_distinct : AreDistinct m.waiting
  pub measured_known : IfSome m.measuring (λ life. IsTrue (is_known m life.session))
  pub measured_alone : IfSome m.measuring (λ life. is_waiting life.session m.waiting ≡ false)
  pub going_on : IfSome m.measuring (λ life. is_over life ≡ false)
  pub current_waits : IsSome m.remeasure_at → is_waiting (session_in m) m.waiting ≡ false
  pub current_measured : IsSome m.remeasure_at → IfSome m.measuring (λ life. same_id life.session (session_in m) ≡ false)

pub record IsMachine (m : Machine) : Type 0 where
  pub config : IsConfig m.config
  pub moment : IsMoment m.moment
  pub sessions : AreSessions m
  -- each timeline taken is tidy
  pub timelines : AllByRecursion AreTidyTimelines (m.sessions.current ∷ m.sessions.others)
  pub starts : AllByRecursion IsInLimits m.starts
  -- the peers that are told were counted
  pub peers : m.peers ≡ peers_in (session_in m) m.life
  pub client : IsTidy m.client
  pub client_start : IsTidyStart m.client_start
  pub quantum : IsQuantum m.quantum
  -- the state published last is tidy, and differs from what the node is in its moment at most
  pub published : IsTidyState m.published
  pub shown : alike (state_in m) m.published ≡ true
