-- Where the timelines of a world begin.
use Rattle.std.specs.Prelude.{ℤ, pos, ◌⊎◌, List, [], ◌∷◌, map}
use Rattle.lk_base.specs.declared.ids.NodeId.{NodeId}
use Rattle.lk_base.specs.declared.timeline.Timeline.{Timeline}
use Rattle.peer_gateway.specs.Happenings.{Has}
use Rattle.client_state.specs.Edits.{timeline_at}
use Rattle.link_node.specs.Brought.{made_by}
use Rattle.link_node.specs.Config.{ConfigValue}
use Rattle.link_node.specs.Event.{EventValue}
use Rattle.link_node.specs.Machine.{Machine}
use Rattle.link_world.specs.World.{WorldValue, TurnValue, Reaches, Happens, opened_world}

-- a peer's own session at its opening, and the timeline that it begins with
abbrev pub opened_with : ConfigValue → NodeId × Timeline
opened_with config = (config.id, timeline_at config.mpb (pos 0) (pos 0))

-- in this turn the peer founds the session with the timeline, or its commit gives it the timeline
pub record IsMadeBy (turn : TurnValue) (before : WorldValue) (session : NodeId) (tl : Timeline) : Type 0 where
  pub machine : Machine
  pub event : EventValue
  pub reaches : Reaches turn before machine event
  pub made : Has (made_by machine event) (session, tl)

-- in one of these turns
abbrev pub IsMadeAfter : WorldValue → List TurnValue → NodeId → Timeline → Type 0
IsMadeAfter before [] session tl = ⊥
IsMadeAfter before (turn ∷ turns) session tl =
    IsMadeBy turn before session tl ⊎ ((between : WorldValue) × Happens turn before between × IsMadeAfter between turns session tl)

-- Some peer opened the session with the timeline or founded it with it, or committed the timeline in it. What was merely
-- received isn't made
abbrev pub IsMade : List ConfigValue → ℤ → List TurnValue → NodeId → Timeline → Type 0
IsMade configs now turns session tl =
    Has (map opened_with configs) (session, tl) ⊎ IsMadeAfter (opened_world configs now) turns session tl
