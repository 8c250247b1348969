-- What a node is after all that happened to it.
use Rattle.std.specs.Prelude.{ℕ, ℤ, pos, Bool, false, List, Option}
use Rattle.lk_base.specs.declared.ids.NodeId.{NodeId}
use Rattle.lk_base.specs.declared.start.ClientStart.{ClientStart}
use Rattle.lk_base.specs.declared.start.SessionStart.{SessionStart}
use Rattle.lk_base.specs.declared.timeline.Timeline.{Timeline}
use Rattle.ping_measure.specs.Life.{Life}
use Rattle.peer_gateway.specs.Happenings.{Happening}
use Rattle.session_choice.specs.History.{History, best_in}
use Rattle.client_state.specs.Starts.{latest_start_of}
use Rattle.client_state.specs.declared.state.State.{State}
use Rattle.link_node.specs.Config.{ConfigValue}

pub record Machine : Type 0 where
  pub config : ConfigValue
  -- the greatest moment so far
  pub moment : ℤ
  -- how many ids were drawn
  pub drawn : ℕ
  -- the own id
  pub id : NodeId
  -- the current session and its offset, and the others; of each the timelines that it has taken
  pub sessions : History
  -- the starts that the current session has taken
  pub starts : List SessionStart
  -- what happened to peers, and how many there are in the current session
  pub life : List Happening
  pub peers : ℕ
  -- the sessions that are to be measured, in order, and when the current one is to be measured anew
  pub waiting : List NodeId
  pub remeasure_at : Option ℤ
  -- the measurement that runs
  pub measuring : Option Life
  -- when alives went to all destinations last, and whether what they told has changed since
  pub last_broadcast : Option ℤ
  pub changed : Bool
  -- what a client is shown
  pub client : Timeline
  pub client_start : ClientStart
  -- the length of a bar
  pub quantum : ℤ
  -- how many application commits were taken, and the number of the last audio commit
  pub app : ℕ
  pub audio : ℕ
  -- the last state published
  pub published : State

-- a session begins without playing
abbrev pub still : SessionStart
still = record { playing = false; beats = pos 0; stamp = pos 0 }

abbrev pub session_in : Machine → NodeId
session_in m = m.sessions.current.session

-- Rule: The current session's timeline is the first of greatest beat origin that it has taken.
abbrev pub timeline_in : Machine → Timeline
timeline_in m = best_in m.sessions.current

-- the ghost time of the current session less the host time
abbrev pub offset_in : Machine → ℤ
offset_in m = m.sessions.offset

-- the first of greatest stamp
abbrev pub start_in : Machine → SessionStart
start_in m = latest_start_of still m.starts
