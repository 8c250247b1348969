-- What a rehearsal commits with its blocks, and what it tells of them.
use Rattle.std.specs.Prelude.{◌≡◌, ◌==◌, ℕ, ◌+◌, ◌*◌, ℤ, pos, if◌then◌else◌, List, [], ◌∷◌, ◌++◌, length, Option, Some, None}
use Rattle.audio_handoff.specs.Cell.{Pair}
use Rattle.lk_outside.specs.Sink.{Appends}
use Rattle.client_state.specs.Commit.{commit_between}
use Rattle.client_state.specs.Words.{state_of_words}
use Rattle.client_state.specs.declared.commit.Commit.{Commit}
use Rattle.client_state.specs.declared.state.State.{State}
use Rattle.step_sequencer.specs.declared.pattern.Pattern.{Pattern}
use Rattle.link_shared.specs.Audio.{AudioView}
use Rattle.drum_machine.specs.Callback.{changed_by}
use Rattle.drum_machine.specs.Score.{block_text_of, done_line_of}
use Rattle.drum_machine.specs.Written.{shown_of}
use Rattle.drum_machine.specs.declared.callback.Change.{Change}
use Rattle.drum_machine.specs.declared.callback.Change.TheVariants as change

-- the host time at which a block begins, the first one a second after 0
abbrev pub begins_at : ℕ → ℤ
begins_at block = pos (1_000_000 + block * 20_000)

-- Rule: A rehearsal starts to play with its first block, and goes over to 128 beats a minute with its third bar, at block 200.
abbrev pub change_with : ℕ → Option Change
change_with block = if block == 0 then Some change.Play else (if block == 200 then Some (change.Tempo (pos 468_750)) else None)

-- the commit of a change, if there is one, as of a moment, over what this read showed when these commits were made
abbrev pub commits_of : Option Change → ℤ → List Commit → Pair → List Commit
commits_of None at made pair = []
commits_of (Some change) at made pair =
    commit_between (state_of_words pair.1) (shown_of made pair) (changed_by change at (shown_of made pair)) at ∷ []

-- that of the change that is due with a block, as of its begin
abbrev pub commits_with : ℕ → List Commit → Pair → List Commit
commits_with block made pair = commits_of (change_with block) (begins_at block) made pair

-- Only for proofs: the change that is due with a block was committed over one read, or none is due.
pub record HasEdited (block : ℕ) (before after : AudioView) : Type 0 where
  pub pair : Pair
  pub made : after.made ≡ before.made ++ commits_with block before.made pair

-- what was read with a block: for its change, if one was due, and by its callback
pub record BlockReads : Type 0 where
  pub edit : Pair
  pub callback : Pair

-- the commits made after blocks, and the tempo shown last
unfoldable pub made_after : List Commit → ℕ → List BlockReads → List Commit
made_after made block [] = made
made_after made block (reads ∷ more) = made_after (made ++ commits_with block made reads.edit) (block + 1) more

-- what is shown of the callback's read
abbrev pub shown_with : ℕ → List Commit → BlockReads → State
shown_with block made reads = shown_of (made ++ commits_with block made reads.edit) reads.callback

unfoldable pub tempo_after : (told : ℤ) → List Commit → ℕ → List BlockReads → ℤ
tempo_after told made block [] = told
tempo_after told made block (reads ∷ more) =
    tempo_after (shown_with block made reads).timeline.mpb (made ++ commits_with block made reads.edit) (block + 1) more

-- Rule: A rehearsal tells each block by what its callback showed, over the rehearsal's own commits.
-- the text of blocks of 960 frames, told after this tempo and when these commits were made
unfoldable pub blocks_text_of : Pattern → (told : ℤ) → List Commit → ℕ → List BlockReads → List ℕ
blocks_text_of pattern told made block [] = []
blocks_text_of pattern told made block (reads ∷ more) =
    block_text_of told pattern (shown_with block made reads) (pos 1_000_000) (block * 960)
    ++ blocks_text_of pattern (shown_with block made reads).timeline.mpb (made ++ commits_with block made reads.edit) (block + 1) more

-- Only for proofs: so many blocks were told, each by what was read with it.
pub record AreTold (blocks : ℕ) (pattern : Pattern) (out out_then : Option (List ℕ)) : Type 0 where
  pub reads : List BlockReads
  pub each : length reads ≡ blocks
  pub told : Appends out (blocks_text_of pattern (pos 0) [] 0 reads) out_then

-- so many blocks were told, each by what was read with it, and at last how many steps and MIDI events there were
pub record IsRehearsed (blocks : ℕ) (pattern : Pattern) (out out_then : Option (List ℕ)) : Type 0 where
  pub reads : List BlockReads
  pub each : length reads ≡ blocks
  pub steps : ℕ
  pub events : ℕ
  pub told : Appends out (blocks_text_of pattern (pos 0) [] 0 reads ++ done_line_of steps events) out_then
