-- What a client of a link is shown, and what it commits: an application, or the audio thread.
use Rattle.std.specs.Prelude.{ℕ, ℤ, true, false, List}
use Rattle.audio_handoff.specs.Cell.{Pair}
use Rattle.client_state.specs.Commit.{commit_between}
use Rattle.client_state.specs.Edits.{tempo_set_of, forced_of, requested_of, quantum_set_of, played_of}
use Rattle.client_state.specs.Shown.{shown_over}
use Rattle.client_state.specs.Words.{state_of_words}
use Rattle.client_state.specs.declared.commit.Commit.{Commit}
use Rattle.client_state.specs.declared.state.State.{State}
use Rattle.link_shared.specs.Audio.{last_of}
use Rattle.link_shared.specs.declared.capture.Capture.{Capture}
use Rattle.link_script.specs.declared.live_script.Act.{Act}
use Rattle.link_script.specs.declared.live_script.Act.TheVariants.{Tempo, Force, Request, Quantum, Play, Stop, Look}

-- Rule: The commands `tempo`, `force`, `request`, `quantum`, `play` and `stop` edit the shown state at the moment of their commit.
-- what an act makes of a state at a moment: beats go by the state's own quantum
unfoldable pub edited_of : Act → ℤ → State → State
edited_of (Tempo mpb) at state = record state { timeline = tempo_set_of state.timeline mpb at }
edited_of (Force beat) at state = record state { timeline = forced_of state.timeline beat at state.quantum }
edited_of (Request beat) at state = record state { timeline = requested_of state.peers state.timeline beat at state.quantum }
edited_of (Quantum quantum) at state = record state { quantum = quantum_set_of quantum }
edited_of Play at state = record state { start = played_of state.start true at }
edited_of Stop at state = record state { start = played_of state.start false at }
edited_of Look at state = state

-- Rule: An application edits what is shown: the captured state with its own last commit over it, until that is taken.
-- The pair of number and row that was read, as it is captured: the state is shown with the last of these own commits, unless so many were
-- taken by then.
unfoldable pub capture_of : (State → ℕ) → List Commit → Pair → Capture
capture_of taken made pair = record {
  number = pair.0;
  state = state_of_words pair.1;
  shown = shown_over (last_of made) (taken (state_of_words pair.1)) (state_of_words pair.1);
}

-- how many commits of applications were taken, and the number of the last audio commit taken
abbrev pub apps_taken : State → ℕ
apps_taken state = state.app

abbrev pub audio_taken : State → ℕ
audio_taken state = state.audio

-- what an act commits that edits a capture's shown state at a moment
unfoldable pub commit_of_act : Act → ℤ → Capture → Commit
commit_of_act act at capture = commit_between capture.state capture.shown (edited_of act at capture.shown) at
