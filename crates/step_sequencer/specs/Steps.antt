-- Steps: four to a beat, counted from the beat origin, and the frames in which they begin.
use Rattle.std.specs.Prelude.{ℕ, zero, suc, ◌+◌, ℤ, pos, ◌+ℤ◌, ◌-ℤ◌, ◌*ℤ◌, ◌<ℤ◌, ◌≤ℤ◌, int_lt, int_le, Bool, ◌&&◌, if◌then◌else◌, List, [], ◌∷◌, ◌++◌, Option, Some, None}
use Rattle.std.specs.Int.{int_div_euclid}
use Rattle.lk_base.specs.declared.timeline.Timeline.{Timeline}
use Rattle.timeline_math.specs.Clicks.{since}
use Rattle.client_state.specs.declared.state.State.{State}
use Rattle.step_sequencer.specs.Frames.{before, end_of}
use Rattle.step_sequencer.specs.declared.steps.Hit.{Hit}

-- so many steps, and not one more, have begun at a time
pub record IsStep (tl : Timeline) (time n : ℤ) : Type 0 where
  pub low : (n *ℤ pos 250_000) ≤ℤ since tl time
  pub high : since tl time <ℤ ((n +ℤ pos 1) *ℤ pos 250_000)

-- Rule: A step of the sequencer is a quarter of a beat, counted from the beat origin.
-- the same as a number
unfoldable pub step_at : Timeline → ℤ → ℤ
step_at tl time = int_div_euclid (since tl time) (pos 250_000)

-- Rule: A sequencer plays while the state is playing and its start has come.
unfoldable pub plays_at : State → ℤ → Bool
plays_at state time = state.start.playing && int_le state.start.time time

-- Rule: A step begins in a frame where it is passed within that frame and the state plays at the frame's end.
-- the step that begins in a frame of a state that plays: it is there at the frame's end, and wasn't before the frame
unfoldable pub step_in : State → ℤ → ℕ → Option ℤ
step_in state origin frame =
    if plays_at state (end_of origin frame)
    && int_lt (step_at state.timeline (before origin frame)) (step_at state.timeline (end_of origin frame))
    then Some (step_at state.timeline (end_of origin frame))
    else None

-- a step that begins in a frame, in a list
abbrev pub hits_of : ℕ → Option ℤ → List Hit
hits_of frame None = []
hits_of frame (Some step) = record { frame = frame; step = step } ∷ []

-- the steps that begin in so many frames from the first on, in order
unfoldable pub struck_from : State → ℤ → ℕ → ℕ → List Hit
struck_from state origin first zero = []
struck_from state origin first (suc n) =
    hits_of first (step_in state origin first) ++ struck_from state origin (first + 1) n

-- how many steps the timeline goes on in so many frames
abbrev pub steps_passed : Timeline → ℤ → ℕ → ℕ → ℤ
steps_passed tl origin first count = step_at tl (before origin (first + count)) -ℤ step_at tl (before origin first)

-- so many whole numbers from one on
unfoldable pub numbers_from : ℤ → ℕ → List ℤ
numbers_from n zero = []
numbers_from n (suc count) = n ∷ numbers_from (n +ℤ pos 1) count
