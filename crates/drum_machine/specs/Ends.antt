-- How a session's ends are told: each by what the devices did.
use Rattle.std.specs.Prelude.{◌≡◌, ◌⊎◌, ℕ, List, [], Option, IfSome}
use Rattle.lk_outside.specs.Audio.{AudioContents}
use Rattle.lk_outside.specs.Faults.{Rose}
use Rattle.lk_outside.specs.Stream.{Stream}
use Rattle.lk_outside.specs.Transfer.{ReadsWhole, TakesOver}
use Rattle.step_sequencer.specs.Pattern.{IsFaultAt}
use Rattle.drum_machine.specs.declared.player.PlayEnd.{PlayEnd}
use Rattle.drum_machine.specs.declared.player.PlayEnd.TheVariants as play_end
use Rattle.drum_machine.specs.declared.status.Status.{Status}
use Rattle.drum_machine.specs.declared.status.Status.TheVariants as status

-- the faults counted by the audio device and by what sound and MIDI are written to
pub record Counts : Type 0 where
  pub audio : ℕ
  pub sound : ℕ
  pub midi : ℕ

abbrev pub counted : ℕ → ℕ → ℕ → Counts
counted audio sound midi = record { audio = audio; sound = sound; midi = midi }

-- the device failed, or no block is left, where it tells that
abbrev pub HasNoMore : Counts → Counts → Option AudioContents → Type 0
HasNoMore before after told_then = Rose before.audio after.audio ⊎ ((after.audio ≡ before.audio) × IfSome told_then (λ contents. contents.left ≡ []))

-- sound or MIDI could not be written
abbrev pub IsUnwritten : Counts → Counts → Type 0
IsUnwritten before after = Rose before.sound after.sound ⊎ Rose before.midi after.midi

-- an end of the audio thread's loop by what the counts did: where all blocks were played, none rose
abbrev pub HasPlayCause : Counts → Counts → Option AudioContents → PlayEnd → Type 0
HasPlayCause before after told_then play_end.Played = after ≡ before
HasPlayCause before after told_then play_end.Device = HasNoMore before after told_then × (after.sound ≡ before.sound) × (after.midi ≡ before.midi)
HasPlayCause before after told_then play_end.Output = (after.audio ≡ before.audio) × IsUnwritten before after

-- Rule: A rehearsal ends as done, or for want of memory, only where no write failed, and as failed only where one did.
abbrev pub EndsRehearsal : (faults faults_then : ℕ) → Status → Type 0
EndsRehearsal faults faults_then status.Done = faults_then ≡ faults
EndsRehearsal faults faults_then status.Output = Rose faults faults_then
EndsRehearsal faults faults_then status.Memory = faults_then ≡ faults
EndsRehearsal faults faults_then status.Words = ⊥
EndsRehearsal faults faults_then status.Network = ⊥
EndsRehearsal faults faults_then status.Audio = ⊥
EndsRehearsal faults faults_then status.Input = ⊥
EndsRehearsal faults faults_then status.Events = ⊥
EndsRehearsal faults faults_then (status.Pattern line) = ⊥
EndsRehearsal faults faults_then status.TooLong = ⊥

-- Rule: A pattern isn't read where the source failed, it has more than 4,096 bytes, its text has a first line at fault, or memory is
-- wanting.
-- Why no pattern was read: the source failed, it has more bytes than are read, or its text has its first fault in a line. Only want of
-- memory is free, and no other status is told.
abbrev pub IsUnread : Stream → Stream → Status → Type 0
IsUnread input input_then status.Input = Rose input.faults input_then.faults
IsUnread input input_then status.TooLong = (input_then.faults ≡ input.faults) × TakesOver 4_096 input.told input_then.told
IsUnread input input_then (status.Pattern line) =
    (input_then.faults ≡ input.faults) × (bytes : List ℕ) × ReadsWhole input.told bytes input_then.told × IsFaultAt bytes line
IsUnread input input_then status.Memory = Unit {0}
IsUnread input input_then status.Done = ⊥
IsUnread input input_then status.Words = ⊥
IsUnread input input_then status.Network = ⊥
IsUnread input input_then status.Audio = ⊥
IsUnread input input_then status.Events = ⊥
IsUnread input input_then status.Output = ⊥
