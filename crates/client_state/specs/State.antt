-- Tidy states, and the clicks of a state.
use Rattle.std.specs.Prelude.{◌≡◌, ◌<◌, int_le, List, [], length, filter, All, if◌then◌else◌}
use Rattle.lk_base.specs.Ranges.{IsQuantum, IsWithinLimit}
use Rattle.lk_base.specs.Timeline.{IsTidy}
use Rattle.lk_base.specs.declared.block.Block.{Block}
use Rattle.lk_base.specs.declared.block.Click.{Click}
use Rattle.lk_base.specs.declared.ids.NodeId.{NodeId}
use Rattle.timeline_math.specs.Clicks.{clicks_of}
use Rattle.client_state.specs.declared.state.State.{State}

-- what the type says of an id in code: it has eight bytes
abbrev pub IsId : NodeId → Type 0
IsId id = (length id.0 ≡ 8) × All (λ byte. byte < 256) id.0

-- the timeline is tidy, the numbers of the start and the moment are within the limit, and so is the quantum within its own
pub record IsTidyState (state : State) : Type 0 where
  pub timeline : IsTidy state.timeline
  pub start : IsWithinLimit state.start.time
  pub stamp : IsWithinLimit state.start.stamp
  pub moment : IsWithinLimit state.moment
  pub quantum : IsQuantum state.quantum

-- Rule: A state clicks only while it plays and only from its start time on.
unfoldable pub clicks_in : State → Block → List Click
clicks_in state block =
    if state.start.playing
    then filter (λ click. int_le state.start.time click.at) (clicks_of state.timeline block state.quantum)
    else []
