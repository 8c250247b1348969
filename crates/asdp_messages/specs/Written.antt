-- As which message is read what is written.
use Rattle.std.specs.Prelude.{◌≡◌, ◌<◌, ◌^◌, length}
use Rattle.lk_base.specs.Ranges.{IsWithinLimit}
use Rattle.link_payload.specs.declared.fields.PingFields.{PingFields}
use Rattle.link_payload.specs.Fields.{IsStored, IsTidyFields, IsTidyPing, echoing}
use Rattle.link_payload.specs.Spelling.{spelled_ping_of}
use Rattle.asdp_messages.specs.declared.message.StateMsg.{StateMsg}
use Rattle.asdp_messages.specs.Datagram.{MessageValue}
use Rattle.asdp_messages.specs.Datagram as message
use Rattle.asdp_messages.specs.Spelling.{Written}
use Rattle.asdp_messages.specs.Spelling as written

-- The state is tidy. The other facts hold of all messages in code.
pub record IsTidyMessage (m : StateMsg) : Type 0 where
  pub ttl : m.ttl < 256
  pub group : m.group < 2 ^ 16
  pub from : length m.from.0 ≡ 8
  pub stored : IsStored m.fields
  pub fields : IsTidyFields m.fields

-- The numbers of a state and the time of a pong are in their ranges. The other facts hold of all that is written.
abbrev pub IsTidyWritten : Written → Type 0
IsTidyWritten (written.Alive m) = IsTidyMessage m
IsTidyWritten (written.Response m) = IsTidyMessage m
IsTidyWritten (written.Bye from ttl group) = (ttl < 256) × (group < 2 ^ 16) × (length from.0 ≡ 8)
IsTidyWritten (written.Ping ping) = Unit {0}
IsTidyWritten (written.Pong session ghost_time echo) = (length session.0 ≡ 8) × IsWithinLimit ghost_time

-- Rule: A datagram that was written from tidy fields is read as the message that was written.
-- the same message, a ping as its payload, and a pong where it echoes a tidy ping, with that ping's times
abbrev pub Says : Written → MessageValue → Type 0
Says (written.Alive m) read = read ≡ message.Alive m
Says (written.Response m) read = read ≡ message.Response m
Says (written.Bye from ttl group) read = read ≡ message.Bye from ttl group
Says (written.Ping ping) read = read ≡ message.Ping (spelled_ping_of ping)
Says (written.Pong session ghost_time echo) read =
    (ping : PingFields) × IsTidyPing ping × (echo ≡ spelled_ping_of ping) × (read ≡ message.Pong (echoing session ghost_time ping))
