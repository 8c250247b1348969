-- What the audio thread's pass stands for, and what each call does to it.
use Rattle.std.specs.Prelude.{◌≡◌, ℕ, ◌≤◌, ◌-◌, List, [], ◌∷◌, ◌++◌, length, Option, option_map, slice_get}
use Rattle.audio_handoff.specs.Cell.{Pair, NumbersNeverFall}
use Rattle.client_state.specs.Shown.{shown_over}
use Rattle.client_state.specs.Words.{state_of_words}
use Rattle.client_state.specs.declared.commit.Commit.{Commit}
use Rattle.client_state.specs.declared.state.State.{State}
use Rattle.link_shared.specs.Desk.{NoneIsNewer}

-- The pairs of number and row that were read, a look for each, which is the number of the state published last when that read looked, and
-- the commits made, which have the numbers from 1 on
pub record AudioView : Type 0 where
  pub seen : List Pair
  pub looks : List ℕ
  pub made : List Commit

-- the last of these commits, with its number
abbrev pub last_of : List Commit → Option (ℕ × Commit)
last_of made = option_map (λ commit. (length made, commit)) (slice_get made (length made - 1))

-- Rule: A capture of the audio thread is one read, no older than a read before it, and shows the thread's own last commit until it is
-- taken.
-- One read of the cell of states was made: its pair comes last in the list, and no number is less than one before it. What is shown has
-- the last commit made over the state, unless it was taken
pub record HasReadAudio (before after : AudioView) (number : ℕ) (state shown : State) : Type 0 where
  pub row : List ℕ
  pub seen : after.seen ≡ before.seen ++ (number, row) ∷ []
  pub look : ℕ
  pub looks : after.looks ≡ before.looks ++ look ∷ []
  pub look_is_not_older : NoneIsNewer look before.seen
  pub look_was_answered : look ≤ number
  pub never_falls : NumbersNeverFall after.seen
  pub state_is : state ≡ state_of_words row
  pub shown_is : shown ≡ shown_over (last_of before.made) state.audio state
  pub commits_stay : after.made ≡ before.made

abbrev pub after_making : AudioView → Commit → AudioView
after_making pass commit = record pass { made = pass.made ++ commit ∷ [] }
