-- Only for proofs: how far the commands of a script are taken.
use Rattle.std.specs.Prelude.{◌≡◌, ℕ, ℤ, true, List, [], length, All, Option}
use mathlib.Core.Option.{some}
use lib.ListN.{get_elem?}
use Rattle.audio_handoff.specs.Cell.{NumbersNeverFall, Pair}
use Rattle.client_state.specs.declared.commit.Commit.{Commit}
use Rattle.link_shared.specs.Audio.{last_of}
use Rattle.link_shared.specs.Passes.{AppView}
use Rattle.link_shared.specs.declared.capture.Capture.{Capture}
use Rattle.link_script.specs.declared.live_script.AppCommand.{AppCommand}
use Rattle.link_live.specs.ScriptRun.{AreAmong, Taken, ArePaced, commands_captures, commands_commits, pairs_of}

-- the pair was read for the applications by the time that the pass knows of
abbrev pub IsIn : List Pair → Pair → Type 0
IsIn seen pair = (k : ℕ) × (get_elem? seen k ≡ some pair)

abbrev pub IsCommandAt : List AppCommand → ℕ → AppCommand → Type 0
IsCommandAt commands k command = get_elem? commands k ≡ some command

-- so many of the commands were taken, the first of them, and the pass knows just what they committed
pub record IsTaking (late : Option ℤ) (commands : List AppCommand) (count : ℕ) (now : AppView) (captures : List Capture) (commits : List Commit) : Type 0 where
  pub taken : List Taken
  pub count_is : length taken ≡ count
  pub paced : ArePaced late commands taken
  pub captures_are : captures ≡ commands_captures [] commands taken
  pub commits_are : commits ≡ commands_commits [] commands taken
  pub among : AreAmong (pairs_of taken) now.seen
  pub seen : All (IsIn now.seen) (pairs_of taken)
  pub never_falls : NumbersNeverFall (pairs_of taken)
  pub pushed : now.pushed ≡ commits
  pub made : now.made ≡ length commits
  pub sole : now.sole ≡ true
  pub own : now.own ≡ last_of commits
