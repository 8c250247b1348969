-- What the loop of the audio thread promises.
use Rattle.std.specs.Prelude.{◌≡◌, ◌≤◌, ◌<◌, ℕ, ℤ, ◌+◌, nat_eq, Bool, true, false, List, [], ◌∷◌, ◌++◌, length, map, filter, All, Option, IfSome}
use Rattle.audio_handoff.specs.Cell.{Pair, NumbersNeverFall}
use Rattle.lk_base.specs.declared.block.Block.{Block}
use Rattle.lk_base.specs.declared.block.Click.{Click}
use Rattle.lk_outside.specs.Audio.{AudioContents, IsBlock}
use Rattle.lk_outside.specs.Contents.{BothTell}
use Rattle.lk_outside.specs.Faults.{Rose}
use Rattle.client_state.specs.State.{clicks_in}
use Rattle.client_state.specs.declared.commit.Commit.{Commit}
use Rattle.link_shared.specs.Audio.{AudioView}
use Rattle.link_shared.specs.Desk.{NoneIsNewer}
use Rattle.link_shared.specs.declared.capture.Capture.{Capture}
use Rattle.link_script.specs.declared.live_script.Act.{Act}
use Rattle.link_script.specs.declared.live_script.BlockCommand.{BlockCommand}
use Rattle.link_live.specs.Clients.{capture_of, commit_of_act, audio_taken}

-- ---- what is done for a block

-- a block that the device gave; the look of the read that was made for it, which is the number of the state published last at that
-- step; and the pair of number and row that it answered
pub record BlockRead : Type 0 where
  pub block : Block
  pub look : ℕ
  pub pair : Pair

-- what is to be done in the block of a number, in the order of the commands
unfoldable pub acts_in : ℕ → List BlockCommand → List Act
acts_in number commands = map (λ command. command.act) (filter (λ command. nat_eq command.block number) commands)

-- The commits of acts at the start of a block. Each edits the state that was captured for it, shown with the last commit made so far.
unfoldable pub act_commits : ℤ → Pair → List Commit → List Act → List Commit
act_commits start pair made [] = []
act_commits start pair made (act ∷ acts) =
    let commit = commit_of_act act start (capture_of audio_taken made pair) in
    commit ∷ act_commits start pair (made ++ commit ∷ []) acts

-- Rule: The commands of a block that was played are committed as of its start, in the order of the script.
-- the commits that are made in the block of this number, where these were made before
unfoldable pub block_commits : List BlockCommand → List Commit → ℕ → BlockRead → List Commit
block_commits commands made number read = act_commits read.block.start read.pair made (acts_in number commands)

-- the commits of the blocks from this number on
unfoldable pub blocks_commits : List BlockCommand → List Commit → ℕ → List BlockRead → List Commit
blocks_commits commands made number [] = []
blocks_commits commands made number (read ∷ reads) =
    let commits = block_commits commands made number read in
    commits ++ blocks_commits commands (made ++ commits) (number + 1) reads

-- and their captures, each shown with the last commit made before its block
unfoldable pub blocks_captures : List BlockCommand → List Commit → ℕ → List BlockRead → List Capture
blocks_captures commands made number [] = []
blocks_captures commands made number (read ∷ reads) =
    capture_of audio_taken made read.pair
    ∷ blocks_captures commands (made ++ block_commits commands made number read) (number + 1) reads

-- Rule: The clicks of a block are those of the state shown for it, none where it isn't playing.
-- the clicks of each block, by the state that was shown for it and its quantum
abbrev pub clicks_of_blocks : List Capture → List BlockRead → List (List Click)
clicks_of_blocks [] reads = []
clicks_of_blocks (capture ∷ captures) [] = []
clicks_of_blocks (capture ∷ captures) (read ∷ reads) =
    clicks_in capture.shown read.block ∷ clicks_of_blocks captures reads

-- ---- what the device and the pass say of it

abbrev pub blocks_of : List BlockRead → List Block
blocks_of reads = map (λ read. read.block) reads

abbrev pub pairs_of : List BlockRead → List Pair
pairs_of reads = map (λ read. read.pair) reads

abbrev pub looks_of : List BlockRead → List ℕ
looks_of reads = map (λ read. read.look) reads

-- each read answered a state that is no older than the one published last when it looked, nor than any that was read before
abbrev pub AreFresh : List Pair → List BlockRead → Type 0
AreFresh seen [] = Unit {0}
AreFresh seen (read ∷ reads) =
    NoneIsNewer read.look seen × (read.look ≤ read.pair.0) × AreFresh (seen ++ read.pair ∷ []) reads

-- these blocks were taken from the front of those left, and given, and these clicks were played
pub record HasPlayed (blocks : List Block) (plays : List (List Click)) (before after : AudioContents) : Type 0 where
  pub left : before.left ≡ blocks ++ after.left
  pub given : after.given ≡ before.given ++ blocks
  pub played : after.plays ≡ before.plays ++ plays

-- no block is left, where the device tells that
abbrev pub HasNoneLeft : Option AudioContents → Type 0
HasNoneLeft told = IfSome told (λ contents. contents.left ≡ [])

-- From lists that were empty: what was read, committed and played for the first blocks that the device gave, at most `most` of them.
pub record IsAudioRun (most : ℕ) (commands : List BlockCommand) (before after : AudioView) (told told_then : Option AudioContents) (reads : List Capture) (commits : List Commit) (plays : List (List Click)) (failed : Bool) : Type 0 where
  -- the blocks that were played, and one more where the device failed to play it
  pub played : List BlockRead
  pub unplayed : List BlockRead
  pub one_unplayed : length unplayed ≤ 1
  pub all_played : failed ≡ false → unplayed ≡ []
  pub each_block : All IsBlock (blocks_of (played ++ unplayed))
  pub grown : BothTell (HasPlayed (blocks_of (played ++ unplayed)) plays) told told_then
  -- there are as many blocks as asked for, unless no more was left or the device failed
  pub few : length (played ++ unplayed) ≤ most
  pub ended : failed ≡ false → length played < most → HasNoneLeft told_then
  -- one read of the states for each block, and what is told of it
  pub seen : after.seen ≡ before.seen ++ pairs_of (played ++ unplayed)
  pub looks : after.looks ≡ before.looks ++ looks_of (played ++ unplayed)
  pub fresh : AreFresh before.seen (played ++ unplayed)
  pub never_falls : NumbersNeverFall before.seen → NumbersNeverFall after.seen
  pub reads_are : reads ≡ blocks_captures commands before.made 1 (played ++ unplayed)
  -- what was played, and what was committed for the blocks played
  pub plays_are : plays ≡ clicks_of_blocks reads played
  pub commits_are : commits ≡ blocks_commits commands before.made 1 played
  pub made : after.made ≡ before.made ++ commits

-- it ends well exactly where no call of the device failed
pub record HasAudioCause (faults faults_then : ℕ) (ended : Bool) : Type 0 where
  pub works : ended ≡ true → faults_then ≡ faults
  pub fails : ended ≡ false → Rose faults faults_then
