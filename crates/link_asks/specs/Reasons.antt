-- What is wrong with a line that asks for nothing, and how that is told.
use Rattle.std.specs.Prelude.{◌≡◌, ◌≤◌, ◌<◌, ℕ, List, length, codes, Some, slice_get}
use Rattle.std.specs.Str.Lines.{strip_carriage_return}
use Rattle.link_lines.specs.LineWords.{words_of}
use Rattle.link_asks.specs.Commands.{command_text_of}
use Rattle.link_asks.specs.declared.command.Command.{Command}
use Rattle.link_asks.specs.declared.command.Command.TheVariants as command
use Rattle.link_asks.specs.declared.reason.Reason.{Reason}
use Rattle.link_asks.specs.declared.reason.Reason.TheVariants as reason

-- this is the first word of the line
abbrev pub BeginsWith : List ℕ → List ℕ → Type 0
BeginsWith line word = slice_get (words_of (strip_carriage_return line)) 0 ≡ Some word

-- Rule: Of a line that asks for nothing is told that it is longer than 128 bytes, else that its first word is no command, else what that
-- command takes.
abbrev pub IsReason : List ℕ → Reason → Type 0
IsReason line reason.TooLong = 128 < length line
IsReason line reason.NoCommand = (length line ≤ 128) × ((c : Command) → BeginsWith line (command_text_of c) → ⊥)
IsReason line (reason.Takes c) = (length line ≤ 128) × BeginsWith line (command_text_of c)

-- a line has one reason
pub record AreReasons : Type 0 where
  pub one : (line : List ℕ) (reason other : Reason) → IsReason line reason → IsReason line other → reason ≡ other

-- what a command takes
unfoldable pub takes_text_of : Command → List ℕ
takes_text_of command.Status = codes "status takes nothing"
takes_text_of command.Now = codes "now takes nothing"
takes_text_of command.Beat = codes "beat takes a time in microseconds, within 2^60 of 0"
takes_text_of command.Phase = codes "phase takes a time in microseconds, within 2^60 of 0"
takes_text_of command.Time = codes "time takes a beat in microbeats, within 2^60 of 0"
takes_text_of command.Tempo = codes "tempo takes microseconds per beat, from 60060 to 3000000"
takes_text_of command.Bpm = codes "bpm takes beats per minute, from 20 to 999, with up to six places"
takes_text_of command.Play = codes "play takes nothing, or a time in microseconds, within 2^60 of 0"
takes_text_of command.Stop = codes "stop takes nothing, or a time in microseconds, within 2^60 of 0"
takes_text_of command.Force = codes "force takes a beat in microbeats and a time in microseconds, within 2^60 of 0"
takes_text_of command.Request = codes "request takes a beat in microbeats and a time in microseconds, within 2^60 of 0"
takes_text_of command.Quantum = codes "quantum takes microbeats, from 0 to 1099511627776"
takes_text_of command.Watch = codes "watch takes nothing"
takes_text_of command.Unwatch = codes "unwatch takes nothing"
takes_text_of command.Clients = codes "clients takes nothing"
takes_text_of command.Gates = codes "gates takes nothing"
takes_text_of command.End = codes "end takes nothing"

unfoldable pub reason_text_of : Reason → List ℕ
reason_text_of reason.TooLong = codes "a line has at most 128 bytes"
reason_text_of reason.NoCommand = codes "no such command; there are status now beat phase time tempo bpm play stop force request quantum watch unwatch clients gates end"
reason_text_of (reason.Takes c) = takes_text_of c

-- what is told where a client may not end the serving
unfoldable pub no_end_text : List ℕ
no_end_text = codes "end is for a server that was started with --end-allowed"
