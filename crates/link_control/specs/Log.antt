-- What is done at each line of a client: what is captured, and what is committed.
use Rattle.std.specs.Prelude.{◌≡◌, ℕ, ℤ, ◌+◌, List, [], ◌∷◌, map, Option, Some, None, option_map}
use Rattle.audio_handoff.specs.Cell.{Pair}
use Rattle.client_state.specs.Shown.{shown_over}
use Rattle.client_state.specs.Words.{state_of_words}
use Rattle.client_state.specs.declared.commit.Commit.{Commit}
use Rattle.link_shared.specs.declared.capture.Capture.{Capture}
use Rattle.link_text.specs.declared.control_line.ControlLine.{ControlLine}
use Rattle.link_text.specs.declared.control_line.ControlLine.TheVariants.{Status, Tempo, Play, Stop, Beat, Time}
use Rattle.link_script.specs.declared.live_script.Act.{Act}
use Rattle.link_script.specs.declared.live_script.Act.TheVariants as act
use Rattle.link_live.specs.Clients.{apps_taken, commit_of_act}
use Rattle.link_control.specs.declared.log.LineLog.{LineLog}

-- a line that was answered, what it asks for, the moment that the pace answered, the pair of number and row that was captured then, and the
-- number of its commit, which says nothing where it commits nothing
pub record Answered : Type 0 where
  pub line : List ℕ
  pub asked : Option ControlLine
  pub at : ℤ
  pub pair : Pair
  pub number : ℕ

-- a commit of a pass, behind its number
abbrev pub Numbered : Type 0
Numbered = ℕ × Commit

-- what is done to the state, if anything is
abbrev pub act_of : ControlLine → Option Act
act_of Status = None
act_of (Tempo mpb) = Some (act.Tempo mpb)
act_of Play = Some act.Play
act_of Stop = Some act.Stop
act_of (Beat time) = None
act_of (Time beat) = None

-- Rule: The lines `tempo`, `play` and `stop` make one commit each, and other lines make none.
abbrev pub act_asked : Option ControlLine → Option Act
act_asked None = None
act_asked (Some asked) = act_of asked

-- Rule: A line is shown the captured state with the client's own last commit over it, until that is taken.
-- the pair as it is captured by a pass with this last commit of its own, which is laid over the state until it is taken
unfoldable pub captured_over : Option Numbered → Pair → Capture
captured_over own pair = record {
  number = pair.0;
  state = state_of_words pair.1;
  shown = shown_over own (apps_taken (state_of_words pair.1)) (state_of_words pair.1);
}

-- what is committed: what the act makes of the state that is shown, at the moment
abbrev pub committed_at : Answered → Capture → Option Numbered
committed_at one capture = option_map (λ done. (one.number, commit_of_act done one.at capture)) (act_asked one.asked)

-- what is logged for a line, where the pass had this last commit of its own
unfoldable pub entry_of : Option Numbered → Answered → LineLog
entry_of own one = record {
  moment = one.at;
  capture = captured_over own one.pair;
  commit = committed_at one (captured_over own one.pair);
}

-- the pass's own last commit after a commit, or after none
abbrev pub own_after : Option Numbered → Option Numbered → Option Numbered
own_after own None = own
own_after own (Some commit) = Some commit

-- what is logged for lines that were answered one after the other
unfoldable pub entries_of : Option Numbered → List Answered → List LineLog
entries_of own [] = []
entries_of own (one ∷ answered) =
    let entry = entry_of own one in entry ∷ entries_of (own_after own entry.commit) answered

-- the pass's own last commit after all that is logged
abbrev pub own_behind : Option Numbered → List LineLog → Option Numbered
own_behind own [] = own
own_behind own (entry ∷ log) = own_behind (own_after own entry.commit) log

-- the commits, in order, each behind its number
abbrev pub put_before : Option Numbered → List Numbered → List Numbered
put_before None commits = commits
put_before (Some commit) commits = commit ∷ commits

abbrev pub commits_in : List LineLog → List Numbered
commits_in [] = []
commits_in (entry ∷ log) = put_before entry.commit (commits_in log)

abbrev pub captures_in : List LineLog → List Capture
captures_in log = map (λ entry. entry.capture) log

-- their numbers count on from this one
abbrev pub AreCounted : ℕ → List Numbered → Type 0
AreCounted made [] = Unit {0}
AreCounted made (commit ∷ commits) = (commit.0 ≡ made + 1) × AreCounted (made + 1) commits
