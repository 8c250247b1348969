-- What is seen of the objects that a live run is given, beside its input.
use Rattle.std.specs.Prelude.{ℤ, Option}
use Rattle.lk_outside.specs.Audio.{AudioSeen}
use Rattle.lk_outside.specs.Port.{PortSeen}
use Rattle.lk_outside.specs.Stream.{Stream}
use Rattle.link_live.specs.Report.{ReportValue}

-- the port, the device, how late the pace answers where it tells that, the output, and what is told of the last run
pub record Outside : Type 0 where
  pub port : PortSeen
  pub audio : AudioSeen
  pub late : Option ℤ
  pub out : Stream
  pub report : ReportValue

abbrev pub outside_of : PortSeen → AudioSeen → Option ℤ → Stream → ReportValue → Outside
outside_of port audio late out report = record { port = port; audio = audio; late = late; out = out; report = report }
