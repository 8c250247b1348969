-- What the loop of an application promises that takes its commands from a script.
use Rattle.std.specs.Prelude.{◌≡◌, ◌⊎◌, ℤ, Bool, true, false, if◌then◌else◌, List, [], ◌∷◌, ◌++◌, length, map, Option}
use Rattle.audio_handoff.specs.Cell.{Pair, NumbersNeverFall}
use Rattle.lk_outside.specs.Pace.{IsPaced}
use Rattle.client_state.specs.declared.commit.Commit.{Commit}
use Rattle.link_shared.specs.Passes.{AppView}
use Rattle.link_shared.specs.declared.capture.Capture.{Capture}
use Rattle.link_script.specs.declared.live_script.Act.{Act}
use Rattle.link_script.specs.declared.live_script.Act.TheVariants.{Tempo, Force, Request, Quantum, Play, Stop, Look}
use Rattle.link_script.specs.declared.live_script.AppCommand.{AppCommand}
use Rattle.link_live.specs.Clients.{capture_of, commit_of_act, apps_taken}

-- a command that was taken: the moment that the pace answered, which its commit carries, and the pair of number and row that was captured
-- for it
pub record Taken : Type 0 where
  pub at : ℤ
  pub pair : Pair

abbrev pub is_look : Act → Bool
is_look (Tempo mpb) = false
is_look (Force beat) = false
is_look (Request beat) = false
is_look (Quantum quantum) = false
is_look Play = false
is_look Stop = false
is_look Look = true

-- a look commits nothing, and any other act what it makes of the capture's shown state
unfoldable pub commits_of_command : List Commit → AppCommand → Taken → List Commit
commits_of_command made command taken =
    if is_look command.act then [] else commit_of_act command.act taken.at (capture_of apps_taken made taken.pair) ∷ []

-- Rule: Each command but `look` makes one commit, and commits are pushed in the order of the script.
-- the commits of commands, where these were made before
unfoldable pub commands_commits : List Commit → List AppCommand → List Taken → List Commit
commands_commits made [] taken = []
commands_commits made (command ∷ commands) [] = []
commands_commits made (command ∷ commands) (one ∷ taken) =
    let commits = commits_of_command made command one in
    commits ++ commands_commits (made ++ commits) commands taken

-- and their captures, each shown with the last commit made before
unfoldable pub commands_captures : List Commit → List AppCommand → List Taken → List Capture
commands_captures made [] taken = []
commands_captures made (command ∷ commands) [] = []
commands_captures made (command ∷ commands) (one ∷ taken) =
    capture_of apps_taken made one.pair
    ∷ commands_captures (made ++ commits_of_command made command one) commands taken

-- each command was taken at the moment that the pace answered for its own
abbrev pub ArePaced : Option ℤ → List AppCommand → List Taken → Type 0
ArePaced late commands [] = Unit {0}
ArePaced late [] (one ∷ taken) = ⊥
ArePaced late (command ∷ commands) (one ∷ taken) = IsPaced late command.at one.at × ArePaced late commands taken

abbrev pub pairs_of : List Taken → List Pair
pairs_of taken = map (λ one. one.pair) taken

-- each of these stands at a place of its own among those, in order
abbrev pub AreAmong : List Pair → List Pair → Type 0
AreAmong [] all = Unit {0}
AreAmong (pair ∷ pairs) [] = ⊥
AreAmong (pair ∷ pairs) (first ∷ all) = ((first ≡ pair) × AreAmong pairs all) ⊎ AreAmong (pair ∷ pairs) all

-- From the only pass of a link, which has captured and committed nothing, and lists that were empty: the first of the commands were taken
-- in order, and all of them unless memory was wanting. Its commits are all that were pushed.
pub record IsScriptRun (late : Option ℤ) (commands : List AppCommand) (after : AppView) (captures : List Capture) (commits : List Commit) (all : Bool) : Type 0 where
  pub taken : List Taken
  pub all_taken : all ≡ true → length taken ≡ length commands
  pub paced : ArePaced late commands taken
  pub captures_are : captures ≡ commands_captures [] commands taken
  pub commits_are : commits ≡ commands_commits [] commands taken
  -- for each command the applications' reader read once more, and no capture is older than one before it
  pub seen : AreAmong (pairs_of taken) after.seen
  pub never_falls : NumbersNeverFall (pairs_of taken)
  -- the pass knows just these commits, all its own
  pub pushed : after.pushed ≡ commits
  pub made : after.made ≡ length commits
  pub sole : after.sole ≡ true
