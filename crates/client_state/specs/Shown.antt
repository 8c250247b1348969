-- The state that is shown: with one's own commit that isn't taken yet laid over it.
use Rattle.std.specs.Prelude.{ℕ, nat_lt, if◌then◌else◌, Option, Some, None, unwrap_or}
use Rattle.client_state.specs.declared.commit.Commit.{Commit}
use Rattle.client_state.specs.declared.state.State.{State}

-- the commit's timeline, start and quantum in place of the state's
abbrev pub laid_over : Commit → State → State
laid_over commit state = record state {
  timeline = unwrap_or commit.timeline state.timeline;
  start = unwrap_or commit.start state.start;
  quantum = unwrap_or commit.quantum state.quantum;
}

-- Rule: A client's own last commit is shown over the captured state until the node has taken it.
unfoldable pub shown_over : Option (ℕ × Commit) → ℕ → State → State
shown_over (Some (number, commit)) taken state = if nat_lt taken number then laid_over commit state else state
shown_over None taken state = state
