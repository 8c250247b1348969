-- What is written of blocks that were played: their sound as a WAV, and their MIDI clock line by line.
use Rattle.std.specs.Prelude.{◌≡◌, ◌⊎◌, ◌≤◌, ℕ, ◌+◌, ◌*◌, ℤ, Bool, List, [], ◌∷◌, ◌++◌, length, map, take, Option, codes}
use Rattle.std.specs.Fmt.{signed_decimal}
use Rattle.std.specs.List.{flat_map}
use Rattle.hex.specs.Hex.{encode_lower}
use Rattle.audio_handoff.specs.Cell.{Pair}
use Rattle.client_state.specs.Shown.{shown_over}
use Rattle.client_state.specs.Words.{state_of_words}
use Rattle.client_state.specs.declared.commit.Commit.{Commit}
use Rattle.client_state.specs.declared.state.State.{State}
use Rattle.link_midi.specs.Events.{events_of, running_after}
use Rattle.link_midi.specs.Messages.{bytes_of}
use Rattle.link_midi.specs.declared.message.MidiEvent.{MidiEvent}
use Rattle.link_shared.specs.Audio.{AudioView, last_of}
use Rattle.lk_outside.specs.Sink.{Appends}
use Rattle.lk_outside.specs.Transfer.{AppendsPrefix}
use Rattle.step_sequencer.specs.Sound.{Ages, sounds_from, ages_from}
use Rattle.step_sequencer.specs.Wav.{header_of, samples_bytes}
use Rattle.step_sequencer.specs.declared.pattern.Pattern.{Pattern}
use Rattle.drum_machine.specs.Callback.{block_from}

-- ---- sound

-- the samples of blocks of 960 frames from the first frame on, of each the state that was shown for it
unfoldable pub sounds_of_blocks : Pattern → ℤ → Ages → ℕ → List State → List ℤ
sounds_of_blocks pattern origin ages first [] = []
sounds_of_blocks pattern origin ages first (shown ∷ more) =
    sounds_from pattern shown origin ages first 960
    ++ sounds_of_blocks pattern origin (ages_from pattern shown origin ages first 960) (first + 960) more

-- Rule: A session's WAV is the header of all blocks asked for, and the samples of those that were played, 960 frames a block.
unfoldable pub wav_of : ℕ → List ℤ → List ℕ
wav_of blocks samples = header_of (blocks * 960) ++ samples_bytes samples

-- ---- MIDI

-- `midi`, the time in microseconds, the bytes in hex
unfoldable pub midi_line_of : MidiEvent → List ℕ
midi_line_of event =
    codes "midi " ++ signed_decimal event.at ++ 32 ∷ encode_lower (bytes_of event.message) ++ 10 ∷ []

unfoldable pub midi_lines_of : List MidiEvent → List ℕ
midi_lines_of events = flat_map midi_line_of events

-- the lines of blocks
unfoldable pub midi_of_blocks : ℤ → Bool → ℕ → List State → List ℕ
midi_of_blocks origin running first [] = []
midi_of_blocks origin running first (shown ∷ more) =
    midi_lines_of (events_of shown running (block_from origin first))
    ++ midi_of_blocks origin (running_after shown running (block_from origin first)) (first + 960) more

-- ---- both

-- Of each block played the state that was shown for it: its sound was appended as a WAV of so many blocks, which begins with voices of
-- these ages, and its MIDI clock, which ran before or didn't.
pub record AreWritten (blocks : ℕ) (pattern : Pattern) (origin : ℤ) (ages : Ages) (running : Bool) (shown : List State) (sound sound_then midi midi_then : Option (List ℕ)) : Type 0 where
  pub sounded : Appends sound (wav_of blocks (sounds_of_blocks pattern origin ages 0 shown)) sound_then
  pub told : Appends midi (midi_of_blocks origin running 0 shown) midi_then

-- how many bytes the sound and the MIDI clock of blocks have
abbrev pub sound_length : ℕ → Pattern → ℤ → Ages → List State → ℕ
sound_length blocks pattern origin ages shown = length (wav_of blocks (sounds_of_blocks pattern origin ages 0 shown))

abbrev pub midi_length : ℤ → Bool → List State → ℕ
midi_length origin running shown = length (midi_of_blocks origin running 0 shown)

-- Only for proofs: the first of these bytes were appended, of the sound, or of the MIDI clock behind all of the sound.
abbrev pub AppendsFront : (samples lines : List ℕ) → Option (List ℕ) → Option (List ℕ) → Option (List ℕ) → Option (List ℕ) → Type 0
AppendsFront samples lines sound sound_then midi midi_then =
    (AppendsPrefix sound samples sound_then × (midi_then ≡ midi)) ⊎ (Appends sound samples sound_then × AppendsPrefix midi lines midi_then)

-- Where writing failed: in the header, before any block; or in the sound of the last block that began, of whose MIDI clock nothing was
-- written then; or in its MIDI clock, behind all of its sound.
abbrev pub IsCutAt : ℕ → Pattern → ℤ → Ages → Bool → List State → (sound_bytes midi_bytes : ℕ) → Type 0
IsCutAt blocks pattern origin ages running shown sound_bytes midi_bytes =
    ((shown ≡ []) × (sound_bytes ≤ sound_length blocks pattern origin ages []) × (midi_bytes ≡ 0))
    ⊎ ((whole : List State) × (last : State) × (shown ≡ whole ++ last ∷ [])
    × (((sound_length blocks pattern origin ages whole ≤ sound_bytes) × (sound_bytes ≤ sound_length blocks pattern origin ages shown)
    × (midi_bytes ≡ midi_length origin running whole))
    ⊎ ((sound_bytes ≡ sound_length blocks pattern origin ages shown)
    × (midi_length origin running whole ≤ midi_bytes) × (midi_bytes ≤ midi_length origin running shown))))

-- Of each block that began the state that was shown for it: the first bytes of its sound and of its MIDI clock were appended.
pub record AreCutShort (blocks : ℕ) (pattern : Pattern) (origin : ℤ) (ages : Ages) (running : Bool) (shown : List State) (sound sound_then midi midi_then : Option (List ℕ)) : Type 0 where
  pub sound_bytes : ℕ
  pub midi_bytes : ℕ
  pub sounded : Appends sound (take sound_bytes (wav_of blocks (sounds_of_blocks pattern origin ages 0 shown))) sound_then
  pub told : Appends midi (take midi_bytes (midi_of_blocks origin running 0 shown)) midi_then
  pub cut : IsCutAt blocks pattern origin ages running shown sound_bytes midi_bytes

-- what is shown of a row that was read, when these commits were made
abbrev pub shown_of : List Commit → Pair → State
shown_of made pair = shown_over (last_of made) (state_of_words pair.1).audio (state_of_words pair.1)

-- Rule: The drum machine writes one WAV, of each block the sound of the state that its read showed, and its MIDI events a line each.
-- so many blocks of all were written, each by the state that its read of the pass showed; these reads are the pass's last
pub record AreWrittenByReads (blocks played : ℕ) (pattern : Pattern) (origin : ℤ) (ages : Ages) (running : Bool) (after : AudioView) (sound sound_then midi midi_then : Option (List ℕ)) : Type 0 where
  pub earlier : List Pair
  pub reads : List Pair
  pub seen : after.seen ≡ earlier ++ reads
  pub each : length reads ≡ played
  pub written : AreWritten blocks pattern origin ages running (map (shown_of after.made) reads) sound sound_then midi midi_then

-- Rule: Where sound or MIDI can't be written any more, all blocks before the one that began last are written whole.
-- so many blocks began, and writing failed in the last of them, or in the header before any
pub record AreCutShortByReads (blocks begun : ℕ) (pattern : Pattern) (origin : ℤ) (ages : Ages) (running : Bool) (after : AudioView) (sound sound_then midi midi_then : Option (List ℕ)) : Type 0 where
  pub earlier : List Pair
  pub reads : List Pair
  pub seen : after.seen ≡ earlier ++ reads
  pub each : length reads ≡ begun
  pub written : AreCutShort blocks pattern origin ages running (map (shown_of after.made) reads) sound sound_then midi midi_then
