-- What the loop of the audio thread owes and promises: of its pass, of each block, and as a whole.
use Rattle.std.specs.Prelude.{◌≡◌, ℕ, ℤ, pos, ◌+ℤ◌, ◌+◌, ◌^◌, ◌<◌, ◌≤◌, Bool, List, [], ◌∷◌, ◌++◌, length, Option, IfSome, if◌then◌else◌}
use Rattle.std.specs.Int.{int_min}
use Rattle.audio_handoff.specs.Cell.{Grows, NumbersNeverFall, Pair}
use Rattle.lk_base.specs.Ranges.{IsMoment}
use Rattle.lk_base.specs.declared.block.Block.{Block}
use Rattle.client_state.specs.Commit.{commit_between}
use Rattle.client_state.specs.Words.{state_of_words}
use Rattle.client_state.specs.declared.commit.Commit.{Commit}
use Rattle.client_state.specs.declared.state.State.{State}
use Rattle.lk_outside.specs.Audio.{AudioContents, AudioSeen}
use Rattle.lk_outside.specs.Contents.{BothTell}
use Rattle.lk_outside.specs.Sink.{Appends}
use Rattle.lk_outside.specs.Stream.{Stream}
use Rattle.link_midi.specs.Events.{events_of, running_after}
use Rattle.link_shared.specs.Audio.{AudioView}
use Rattle.step_sequencer.specs.Sound.{Ages, sounds_from, ages_from}
use Rattle.step_sequencer.specs.Wav.{samples_bytes}
use Rattle.step_sequencer.specs.declared.pattern.Pattern.{Pattern}
use Rattle.drum_machine.specs.Callback.{block_from, changed_by}
use Rattle.drum_machine.specs.declared.callback.Change.TheVariants as change
use Rattle.drum_machine.specs.Ends.{HasPlayCause, counted}
use Rattle.drum_machine.specs.Written.{AppendsFront, AreCutShortByReads, AreWrittenByReads, midi_lines_of, shown_of}
use Rattle.drum_machine.specs.declared.callback.Drums.{Drums}
use Rattle.drum_machine.specs.declared.player.PlayEnd.{PlayEnd}
use Rattle.drum_machine.specs.declared.player.PlayEnd.TheVariants as play_end

-- a number is left for its commit, the frames can be counted, and the origin is a moment
pub record CanPlay (pass : AudioView) (origin : ℤ) (blocks : ℕ) : Type 0 where
  pub room : length pass.made + 1 < 2 ^ 60
  pub few : blocks ≤ 524_288
  pub moment : IsMoment origin

-- the first frame is where the device's first block begins, where it tells that
abbrev pub BeginsAt : Option AudioContents → ℤ → Type 0
BeginsAt audio origin = IfSome audio (λ contents. (block : Block) × (rest : List Block) × (contents.left ≡ block ∷ rest) × (origin ≡ block.start))

-- so many blocks more were given, and nothing was played to the device
pub record HasGiven (count : ℕ) (before after : AudioContents) : Type 0 where
  pub blocks : List Block
  pub given : after.given ≡ before.given ++ blocks
  pub count_is : length blocks ≡ count
  pub plays : after.plays ≡ before.plays

-- so many blocks were asked for, of a device that tells it
abbrev pub HasAsked : ℕ → Option AudioContents → Option AudioContents → Type 0
HasAsked count before after = BothTell (HasGiven count) before after

-- Rule: The drum machine starts to play, from beat 0, in the middle of frame 0 of its first block, if the state that it is shown plays
-- nothing.
-- Where it starts whose first block begins at a moment: ten microseconds later, which is in the middle of frame 0, or at the last moment.
abbrev pub start_from : ℤ → ℤ
start_from begins = int_min (begins +ℤ pos 10) (pos (2 ^ 55))

-- Rule: The drum machine starts nothing where somebody plays, or its own start is on its way.
-- What is committed of a start as of a moment, where a read shows this state, and the pass this one.
abbrev pub starts_over : ℤ → State → State → List Commit
starts_over at state shown =
    if shown.start.playing then [] else commit_between state shown (changed_by change.Play at shown) at ∷ []

-- it read once, and committed a start as of that moment, if nobody played; that is all that it has committed since, whatever it has read
pub record HasStarted (at : ℤ) (before after : AudioView) : Type 0 where
  pub pair : Pair
  pub seen : Grows (before.seen ++ pair ∷ []) after.seen
  pub made : after.made ≡ before.made ++ starts_over at (state_of_words pair.1) (shown_of before.made pair)

-- The first frame is where the device's first block begins, where it tells that, and from its middle on it plays, from beat 0, if nobody
-- did.
pub record HasBegun (origin : ℤ) (told : Option AudioContents) (pass pass_then : AudioView) : Type 0 where
  pub begins : BeginsAt told origin
  pub started : HasStarted (start_from origin) pass pass_then

-- all that it had read and committed stays, no read is older than one before, and it commits once at most
pub record HasPlayed (before after : AudioView) : Type 0 where
  pub seen : Grows before.seen after.seen
  pub never_falls : NumbersNeverFall before.seen → NumbersNeverFall after.seen
  pub made : Grows before.made after.made
  pub once : length after.made ≤ length before.made + 1

-- Only for proofs: the block from the frame `first` on was played. One read of the pass was made, and its sound and its MIDI clock were
-- written by what that showed.
pub record HasPlayedBlock (first : ℕ) (drums drums_then : Drums) (before after : AudioView) (sound sound_then midi midi_then : Option (List ℕ)) : Type 0 where
  pub pair : Pair
  pub seen : after.seen ≡ before.seen ++ pair ∷ []
  pub kit : drums_then.kit ≡ ages_from drums.pattern (shown_of before.made pair) drums.origin drums.kit first 960
  pub clock : drums_then.clock ≡ running_after (shown_of before.made pair) drums.clock (block_from drums.origin first)
  pub sounded : Appends sound (samples_bytes (sounds_from drums.pattern (shown_of before.made pair) drums.origin drums.kit first 960)) sound_then
  pub told : Appends midi (midi_lines_of (events_of (shown_of before.made pair) drums.clock (block_from drums.origin first))) midi_then

-- Only for proofs: the block from the frame `first` on began, and writing failed: one read of the pass was made, and of the sound and the
-- MIDI clock of what that showed a front was written.
pub record HasCutBlock (first : ℕ) (drums : Drums) (before after : AudioView) (sound sound_then midi midi_then : Option (List ℕ)) : Type 0 where
  pub pair : Pair
  pub seen : after.seen ≡ before.seen ++ pair ∷ []
  pub front : AppendsFront (samples_bytes (sounds_from drums.pattern (shown_of before.made pair) drums.origin drums.kit first 960))
      (midi_lines_of (events_of (shown_of before.made pair) drums.clock (block_from drums.origin first))) sound sound_then midi midi_then

-- ---- the ends of the loop

-- Where all blocks were played: all were written. The device was asked for one block more, which begins where the last one ends.
pub record IsPlayedWhole (blocks : ℕ) (pattern : Pattern) (ages : Ages) (running : Bool) (told told_then : Option AudioContents) (pass pass_then : AudioView) (sound sound_then midi midi_then : Option (List ℕ)) : Type 0 where
  pub origin : ℤ
  pub begun : HasBegun origin told pass pass_then
  pub asked : HasAsked (blocks + 1) told told_then
  pub written : AreWrittenByReads blocks blocks pattern origin ages running pass_then sound sound_then midi midi_then

-- Where the device ended it: the header was written, and the blocks that the device gave, if it gave any.
pub record IsPlayedInPart (blocks : ℕ) (pattern : Pattern) (ages : Ages) (running : Bool) (told told_then : Option AudioContents) (pass pass_then : AudioView) (sound sound_then midi midi_then : Option (List ℕ)) : Type 0 where
  pub origin : ℤ
  pub given : ℕ
  pub few : given ≤ blocks
  pub begun : 0 < given → HasBegun origin told pass pass_then
  pub asked : HasAsked given told told_then
  pub written : AreWrittenByReads blocks given pattern origin ages running pass_then sound sound_then midi midi_then

-- Where sound or MIDI could not be written: the first of what the blocks give that the device gave, if it gave any.
pub record IsCutOff (blocks : ℕ) (pattern : Pattern) (ages : Ages) (running : Bool) (told told_then : Option AudioContents) (pass pass_then : AudioView) (sound sound_then midi midi_then : Option (List ℕ)) : Type 0 where
  pub origin : ℤ
  pub given : ℕ
  pub few : given ≤ blocks
  pub begun : 0 < given → HasBegun origin told pass pass_then
  pub asked : HasAsked given told told_then
  pub written : AreCutShortByReads blocks given pattern origin ages running pass_then sound sound_then midi midi_then

-- what was asked for and written, by how the loop ended
abbrev pub IsPlayed : ℕ → Pattern → Ages → Bool → Option AudioContents → Option AudioContents → AudioView → AudioView
    → Option (List ℕ) → Option (List ℕ) → Option (List ℕ) → Option (List ℕ) → PlayEnd → Type 0
IsPlayed blocks pattern ages running told told_then pass pass_then sound sound_then midi midi_then play_end.Played =
    IsPlayedWhole blocks pattern ages running told told_then pass pass_then sound sound_then midi midi_then
IsPlayed blocks pattern ages running told told_then pass pass_then sound sound_then midi midi_then play_end.Device =
    IsPlayedInPart blocks pattern ages running told told_then pass pass_then sound sound_then midi midi_then
IsPlayed blocks pattern ages running told told_then pass pass_then sound sound_then midi midi_then play_end.Output =
    IsCutOff blocks pattern ages running told told_then pass pass_then sound sound_then midi midi_then

-- Only for proofs: all that the loop promises, as threads that are joined have one clause.
pub record HasDrummed (blocks : ℕ) (drums : Drums) (pass pass_then : AudioView) (audio audio_then : AudioSeen) (sound sound_then midi midi_then : Stream) (end : PlayEnd) : Type 0 where
  pub played : HasPlayed pass pass_then
  pub written : IsPlayed blocks drums.pattern drums.kit drums.clock audio.told audio_then.told pass pass_then sound.told sound_then.told midi.told midi_then.told end
  pub cause : HasPlayCause (counted audio.faults sound.faults midi.faults) (counted audio_then.faults sound_then.faults midi_then.faults) audio_then.told end
