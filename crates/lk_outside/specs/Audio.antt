-- What an audio device's calls do to its contents and to its count of faults.
use Rattle.std.specs.Prelude.{◌≡◌, ℕ, pos, ◌≤ℤ◌, List, [], ◌∷◌, ◌++◌, Option}
use Rattle.lk_base.specs.Ranges.{IsMoment}
use Rattle.lk_base.specs.declared.block.Block.{Block}
use Rattle.lk_base.specs.declared.block.Click.{Click}
use Rattle.lk_outside.specs.Contents.{BothTell}
use Rattle.lk_outside.specs.Faults.{Rose}
use Rattle.lk_outside.specs.declared.audio.Next.{Next}
use Rattle.lk_outside.specs.declared.audio.Next.TheVariants as next
use Rattle.lk_outside.specs.declared.audio.Played.{Played}
use Rattle.lk_outside.specs.declared.audio.Played.TheVariants as played

-- The blocks left, those given, and the clicks of each play, each in order
pub record AudioContents : Type 0 where
  pub left : List Block
  pub given : List Block
  pub plays : List (List Click)

-- a device's contents where it tells them, and its count of failures
pub record AudioSeen : Type 0 where
  pub told : Option AudioContents
  pub faults : ℕ

-- Rule: An audio block begins at a moment and is 1 to 1,000,000 microseconds long.
pub record IsBlock (block : Block) : Type 0 where
  pub start : IsMoment block.start
  pub some : pos 1 ≤ℤ block.length
  pub short : block.length ≤ℤ pos 1_000_000

-- what any device answers
abbrev pub IsNext : Next → Type 0
IsNext (next.Block block) = IsBlock block
IsNext next.Closed = Unit {0}
IsNext next.Failed = Unit {0}

-- ---- next

-- the block was the first of those left, and is given
pub record GivesBlock (block : Block) (before after : AudioContents) : Type 0 where
  pub left : before.left ≡ block ∷ after.left
  pub given : after.given ≡ before.given ++ block ∷ []
  pub plays : after.plays ≡ before.plays

-- no block is left, and all stays
pub record IsAtLast (before after : AudioContents) : Type 0 where
  pub none_left : before.left ≡ []
  pub stays : after ≡ before

-- where told, what the answer says of the contents, before and after
abbrev pub GivesNext : Option AudioContents → Option AudioContents → Next → Type 0
GivesNext before after (next.Block block) = BothTell (GivesBlock block) before after
GivesNext before after next.Closed = BothTell IsAtLast before after
GivesNext before after next.Failed = after ≡ before

abbrev pub HasNextCause : ℕ → ℕ → Next → Type 0
HasNextCause before now (next.Block block) = now ≡ before
HasNextCause before now next.Closed = now ≡ before
HasNextCause before now next.Failed = Rose before now

-- ---- play

-- Rule: A device plays the clicks of each block after those of the blocks before.
pub record PlaysOne (clicks : List Click) (before after : AudioContents) : Type 0 where
  pub left : after.left ≡ before.left
  pub given : after.given ≡ before.given
  pub plays : after.plays ≡ before.plays ++ clicks ∷ []

abbrev pub Plays : Option AudioContents → Option AudioContents → List Click → Played → Type 0
Plays before after clicks played.Done = BothTell (PlaysOne clicks) before after
Plays before after clicks played.Failed = after ≡ before

abbrev pub HasPlayCause : ℕ → ℕ → Played → Type 0
HasPlayCause before now played.Done = now ≡ before
HasPlayCause before now played.Failed = Rose before now
