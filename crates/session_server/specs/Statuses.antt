-- The numbers of the statuses, and the status of an end.
use Rattle.std.specs.Prelude.{ℕ}
use Rattle.link_clients.specs.declared.terms.ServeEnd.{ServeEnd}
use Rattle.link_clients.specs.declared.terms.ServeEnd.TheVariants as end
use Rattle.session_server.specs.declared.status.Status.{Status}
use Rattle.session_server.specs.declared.status.Status.TheVariants as status

-- the number that goes with a status, which is the program's exit status
abbrev pub status_number_of : Status → ℕ
status_number_of status.Done = 0
status_number_of status.Words = 2
status_number_of status.Network = 3
status_number_of status.Time = 4
status_number_of status.Input = 5
status_number_of status.Events = 6
status_number_of status.Script = 8
status_number_of status.Memory = 9
status_number_of status.TooLong = 10
status_number_of status.Talks = 11

-- Rule: A session server ends with 9 for want of memory, 3 for a failed port, 11 for failed talks, 6 for a full journal, and else 0.
abbrev pub ended_as : ServeEnd → Status
ended_as end.Memory = status.Memory
ended_as end.Port = status.Network
ended_as end.Talks = status.Talks
ended_as end.Events = status.Events
ended_as end.Well = status.Done
