-- What an application's pass stands for, and what each call does to it.
use Rattle.std.specs.Prelude.{◌≡◌, ℕ, ◌+◌, ◌-◌, List, [], ◌∷◌, ◌++◌, length, Bool, true, false, Option, Some, None}
use Rattle.audio_handoff.specs.Cell.{Pair, NumbersNeverFall}
use Rattle.client_state.specs.Shown.{shown_over}
use Rattle.client_state.specs.Words.{state_of_words}
use Rattle.client_state.specs.declared.commit.Commit.{Commit}
use Rattle.client_state.specs.declared.state.State.{State}

-- The pairs that had been read for the applications when this pass last captured, a beginning of the commits pushed, how many of them are
-- its own, its own last one with its number, how many further passes it may make, and whether it is the only pass that was made
pub record AppView : Type 0 where
  pub seen : List Pair
  pub pushed : List Commit
  pub made : ℕ
  pub own : Option (ℕ × Commit)
  pub room : ℕ
  pub sole : Bool

-- ---- a further pass

-- the new pass knows what the other one knows, and has made nothing
abbrev pub further_of : AppView → AppView
further_of pass = record { seen = pass.seen; pushed = pass.pushed; made = 0; own = None; room = 0; sole = false }

abbrev pub after_passing : AppView → AppView
after_passing pass = record pass { room = pass.room - 1; sole = false }

-- ---- a capture

-- Rule: A capture of an application is no older than a capture before it, and shows the pass's own last commit until it is taken.
-- One read of the cell of states was made since the pass's last note: its pair comes last in the list, others may have come between, and no
-- number is less than one before it. What is shown has the pass's own last commit over the state, unless it was taken
pub record HasCaptured (before after : AppView) (number : ℕ) (state shown : State) : Type 0 where
  pub row : List ℕ
  pub between : List Pair
  pub seen : after.seen ≡ (before.seen ++ between) ++ (number, row) ∷ []
  pub never_falls : NumbersNeverFall after.seen
  pub state_is : state ≡ state_of_words row
  pub shown_is : shown ≡ shown_over before.own state.app state
  pub others_stay : after ≡ record before { seen = after.seen }

-- ---- a commit

-- Rule: A commit that is pushed stands last in the queue under the next number.
-- The commit was pushed as that number of all. Others may have been pushed since the pass last knew
pub record HasCommitted (before after : AppView) (commit : Commit) (number : ℕ) : Type 0 where
  pub between : List Commit
  pub pushed : after.pushed ≡ (before.pushed ++ between) ++ commit ∷ []
  pub number_is : number ≡ length after.pushed
  pub sole_made : before.sole ≡ true → before.made + 1 ≡ number
  pub others_stay : after ≡ record before { pushed = after.pushed; made = before.made + 1; own = Some (number, commit) }
