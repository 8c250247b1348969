-- The numbers of the statuses, and the status of an end.
use Rattle.std.specs.Prelude.{ℕ, Bool, true, false}
use Rattle.midi_clock.specs.declared.player.PlayEnd.{PlayEnd}
use Rattle.midi_clock.specs.declared.player.PlayEnd.TheVariants as play_end
use Rattle.midi_clock.specs.declared.status.Status.{Status}
use Rattle.midi_clock.specs.declared.status.Status.TheVariants as status

-- the number that goes with a status, which is the program's exit status
abbrev pub status_number_of : Status → ℕ
status_number_of status.Done = 0
status_number_of status.Words = 2
status_number_of status.Network = 3
status_number_of status.Time = 4
status_number_of status.Events = 6
status_number_of status.Output = 7
status_number_of status.Memory = 9

-- Rule: The MIDI clock ends with 7 for a failed write, 3 for a failed port, 6 for a full journal, and else 0.
-- the first cause that holds: a message that wasn't written, a port that failed, a journal that was full
abbrev pub ended_as : PlayEnd → Bool → Bool → Status
ended_as play_end.Output failed full = status.Output
ended_as play_end.Played true full = status.Network
ended_as play_end.Played false true = status.Events
ended_as play_end.Played false false = status.Done
