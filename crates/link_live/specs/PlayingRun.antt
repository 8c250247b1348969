-- Only for proofs: how far a run of the audio thread's loop has come.
use Rattle.std.specs.Prelude.{◌≡◌, ◌≤◌, ℕ, ℤ, ◌+◌, nat_lt, Bool, true, false, List, [], ◌∷◌, ◌++◌, length, filter, All, Option}
use Rattle.audio_handoff.specs.Cell.{NumbersNeverFall}
use Rattle.lk_base.specs.declared.block.Click.{Click}
use Rattle.lk_outside.specs.Audio.{AudioContents, IsBlock}
use Rattle.lk_outside.specs.Contents.{BothTell}
use Rattle.lk_outside.specs.Faults.{Rose}
use Rattle.client_state.specs.Commit.{commit_between}
use Rattle.client_state.specs.Shown.{shown_over}
use Rattle.client_state.specs.declared.commit.Commit.{Commit}
use Rattle.client_state.specs.declared.state.State.{State}
use Rattle.link_shared.specs.Audio.{AudioView, last_of}
use Rattle.link_shared.specs.declared.capture.Capture.{Capture}
use Rattle.link_script.specs.declared.live_script.Act.{Act}
use Rattle.link_script.specs.declared.live_script.BlockCommand.{BlockCommand}
use Rattle.link_live.specs.AudioRun.{BlockRead, AreFresh, HasPlayed, IsAudioRun, acts_in, blocks_of, pairs_of, looks_of, blocks_captures, blocks_commits, clicks_of_blocks}
use Rattle.link_live.specs.Clients.{edited_of}
use Rattle.link_live.specs.declared.audio.BlockEnd.{BlockEnd}
use Rattle.link_live.specs.declared.audio.BlockEnd.TheVariants.{Played, Closed, Failed}

-- ---- the commits of one block

-- this state, shown with the last commit made
abbrev pub shown_with : State → List Commit → State
shown_with state made = shown_over (last_of made) state.audio state

-- a state was captured, and is shown with the last commit made
abbrev pub IsShownWith : Capture → List Commit → Type 0
IsShownWith capture made = capture.shown ≡ shown_with capture.state made

-- the commit of an act at a moment on what is shown of a state
unfoldable pub one_commit : ℤ → State → List Commit → Act → Commit
one_commit start state made act =
    commit_between state (shown_with state made) (edited_of act start (shown_with state made)) start

-- the commits of acts at a moment, each on top of those before it
unfoldable pub commits_on : ℤ → State → List Commit → List Act → List Commit
commits_on start state made [] = []
commits_on start state made (act ∷ acts) =
    let commit = one_commit start state made act in
    commit ∷ commits_on start state (made ++ commit ∷ []) acts

-- the commits of a block's commands were made, and kept
pub record HasCommitted (start : ℤ) (number : ℕ) (commands : List BlockCommand) (state : State) (before after : AudioView) (commits commits_then : List Commit) : Type 0 where
  pub seen : after.seen ≡ before.seen
  pub looks : after.looks ≡ before.looks
  pub made_are : after.made ≡ before.made ++ commits_on start state before.made (acts_in number commands)
  pub commits_are : commits_then ≡ commits ++ commits_on start state before.made (acts_in number commands)

-- ---- the blocks so far

-- the commands of the blocks before this one
abbrev pub commands_before : ℕ → List BlockCommand → List BlockCommand
commands_before number commands = filter (λ command. nat_lt command.block number) commands

-- each block so far was played, and the one of this number comes next
pub record IsPlaying (commands : List BlockCommand) (number : ℕ) (first now : AudioView) (told told_now : Option AudioContents) (reads : List Capture) (commits : List Commit) (plays : List (List Click)) : Type 0 where
  pub played : List BlockRead
  pub next : number ≡ length played + 1
  pub each_block : All IsBlock (blocks_of played)
  pub grown : BothTell (HasPlayed (blocks_of played) plays) told told_now
  pub seen : now.seen ≡ first.seen ++ pairs_of played
  pub looks : now.looks ≡ first.looks ++ looks_of played
  pub fresh : AreFresh first.seen played
  pub never_falls : NumbersNeverFall first.seen → NumbersNeverFall now.seen
  pub reads_are : reads ≡ blocks_captures commands first.made 1 played
  pub plays_are : plays ≡ clicks_of_blocks reads played
  pub commits_are : commits ≡ blocks_commits commands first.made 1 played
  pub made : now.made ≡ first.made ++ commits
  pub few : length commits ≤ length (commands_before number commands)

-- a run of at most as many blocks, where that of this number may have been asked for
abbrev pub IsEnded : List BlockCommand → ℕ → AudioView → AudioView → Option AudioContents → Option AudioContents → List Capture → List Commit → List (List Click) → Bool → Type 0
IsEnded commands number first now told told_now reads commits plays failed =
    (most : ℕ) → number ≤ most → IsAudioRun most commands first now told told_now reads commits plays failed

-- a block was played, or the run has ended
abbrev pub AfterBlock : BlockEnd → List BlockCommand → ℕ → AudioView → AudioView → Option AudioContents → Option AudioContents → List Capture → List Commit → List (List Click) → Type 0
AfterBlock Played commands number first now told told_now reads commits plays =
    IsPlaying commands (number + 1) first now told told_now reads commits plays
AfterBlock Closed commands number first now told told_now reads commits plays =
    IsEnded commands number first now told told_now reads commits plays false
AfterBlock Failed commands number first now told told_now reads commits plays =
    IsEnded commands number first now told told_now reads commits plays true

-- the count of faults rises where the device fails
abbrev pub HasBlockCause : ℕ → ℕ → BlockEnd → Type 0
HasBlockCause faults faults_then Played = faults_then ≡ faults
HasBlockCause faults faults_then Closed = faults_then ≡ faults
HasBlockCause faults faults_then Failed = Rose faults faults_then
