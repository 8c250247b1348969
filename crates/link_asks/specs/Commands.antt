-- The first words of lines.
use Rattle.std.specs.Prelude.{ℕ, List, codes}
use Rattle.link_asks.specs.declared.command.Command.{Command}
use Rattle.link_asks.specs.declared.command.Command.TheVariants as command

unfoldable pub command_text_of : Command → List ℕ
command_text_of command.Status = codes "status"
command_text_of command.Now = codes "now"
command_text_of command.Beat = codes "beat"
command_text_of command.Phase = codes "phase"
command_text_of command.Time = codes "time"
command_text_of command.Tempo = codes "tempo"
command_text_of command.Bpm = codes "bpm"
command_text_of command.Play = codes "play"
command_text_of command.Stop = codes "stop"
command_text_of command.Force = codes "force"
command_text_of command.Request = codes "request"
command_text_of command.Quantum = codes "quantum"
command_text_of command.Watch = codes "watch"
command_text_of command.Unwatch = codes "unwatch"
command_text_of command.Clients = codes "clients"
command_text_of command.Gates = codes "gates"
command_text_of command.End = codes "end"
