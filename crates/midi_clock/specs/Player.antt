-- What the loop of the audio thread owes and promises.
use Rattle.std.specs.Prelude.{◌≡◌, ℕ, ℤ, pos, ◌≤ℤ◌, ◌^◌, ◌<◌, ◌≤◌, List, [], ◌∷◌, ◌++◌, length, take, Option}
use Rattle.audio_handoff.specs.Cell.{Grows, NumbersNeverFall, Pair}
use Rattle.lk_outside.specs.Faults.{Rose}
use Rattle.lk_outside.specs.Sink.{Appends}
use Rattle.lk_outside.specs.Stream.{Stream}
use Rattle.link_midi.specs.Messages.{bytes_of}
use Rattle.link_midi.specs.declared.message.MidiEvent.{MidiEvent}
use Rattle.link_shared.specs.Audio.{AudioView}
use Rattle.midi_clock.specs.Sent.{counts_of, messages_of, midi_bytes_of}
use Rattle.midi_clock.specs.declared.counts.Counts.{Counts}
use Rattle.midi_clock.specs.declared.player.PlayEnd.{PlayEnd}
use Rattle.midi_clock.specs.declared.player.PlayEnd.TheVariants as play_end

-- the blocks can be counted, and their times too
pub record CanPlay (origin : ℤ) (blocks : ℕ) : Type 0 where
  pub first : pos 0 ≤ℤ origin
  pub last : origin ≤ℤ pos (2 ^ 56)
  pub few : blocks ≤ 43_200_000

-- Rule: The MIDI clock commits nothing: it follows.
-- all that it had read stays, no read is older than one before it, and it has committed nothing
pub record HasOnlyRead (before after : AudioView) : Type 0 where
  pub seen : Grows before.seen after.seen
  pub never_falls : NumbersNeverFall before.seen → NumbersNeverFall after.seen
  pub made : after.made ≡ before.made

-- ---- one block

-- Only for proofs: of messages these were sent, and then a write failed: of one message more a front was written.
pub record AreCutAt (events : List MidiEvent) (midi midi_then : Option (List ℕ)) (here : List MidiEvent) : Type 0 where
  pub failed : MidiEvent
  pub rest : List MidiEvent
  pub split : events ≡ here ++ failed ∷ rest
  pub front : ℕ
  pub within : front ≤ length (bytes_of failed.message)
  pub sent : Appends midi (midi_bytes_of here ++ take front (bytes_of failed.message)) midi_then

-- Only for proofs: counts that stood for messages stand for these behind them as well.
abbrev pub CountsMore : List MidiEvent → Counts → Counts → Type 0
CountsMore events counts counts_then = (sent : List MidiEvent) → counts ≡ counts_of sent → counts_then ≡ counts_of (sent ++ events)

-- ---- the ends of the loop

-- Rule: A MIDI clock that plays to its end reads once for each block, and sends all messages of its blocks whole, in order.
pub record IsPlayedWhole (blocks : ℕ) (origin : ℤ) (pass pass_then : AudioView) (midi midi_then : Option (List ℕ)) (counts : Counts) : Type 0 where
  pub reads : List Pair
  pub seen : pass_then.seen ≡ pass.seen ++ reads
  pub each : length reads ≡ blocks
  pub sent : Appends midi (midi_bytes_of (messages_of origin reads)) midi_then
  pub counted : counts ≡ counts_of (messages_of origin reads)

-- Rule: Where a message of the MIDI clock can't be written, all messages before it are sent whole, and of it a front at most.
-- the blocks before the last one that began, and that one, of whose messages one could not be written
pub record IsCutOff (blocks : ℕ) (origin : ℤ) (pass pass_then : AudioView) (midi midi_then : Option (List ℕ)) (counts : Counts) : Type 0 where
  pub reads : List Pair
  pub last : Pair
  pub seen : pass_then.seen ≡ pass.seen ++ (reads ++ last ∷ [])
  pub few : length reads < blocks
  pub here : List MidiEvent
  pub failed : MidiEvent
  pub rest : List MidiEvent
  pub split : messages_of origin (reads ++ last ∷ []) ≡ (messages_of origin reads ++ here) ++ failed ∷ rest
  pub front : ℕ
  pub within : front ≤ length (bytes_of failed.message)
  pub sent : Appends midi (midi_bytes_of (messages_of origin reads ++ here) ++ take front (bytes_of failed.message)) midi_then
  pub counted : counts ≡ counts_of (messages_of origin reads ++ here)

-- what was sent, by how the loop ended
abbrev pub IsPlayed : ℕ → ℤ → AudioView → AudioView → Option (List ℕ) → Option (List ℕ) → Counts → PlayEnd → Type 0
IsPlayed blocks origin pass pass_then midi midi_then counts play_end.Played = IsPlayedWhole blocks origin pass pass_then midi midi_then counts
IsPlayed blocks origin pass pass_then midi midi_then counts play_end.Output = IsCutOff blocks origin pass pass_then midi midi_then counts

-- an end by what the sink counted: it failed exactly where the end says so
abbrev pub HasPlayCause : ℕ → ℕ → PlayEnd → Type 0
HasPlayCause faults faults_then play_end.Played = faults_then ≡ faults
HasPlayCause faults faults_then play_end.Output = Rose faults faults_then

-- Only for proofs: all that the loop promises, as threads that are joined have one clause.
pub record HasClocked (blocks : ℕ) (origin : ℤ) (pass pass_then : AudioView) (midi midi_then : Stream) (counts : Counts) (end : PlayEnd) : Type 0 where
  pub read : HasOnlyRead pass pass_then
  pub played : IsPlayed blocks origin pass pass_then midi.told midi_then.told counts end
  pub cause : HasPlayCause midi.faults midi_then.faults end
