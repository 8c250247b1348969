-- What is seen of all objects that the top call is given.
use Rattle.std.specs.Prelude.{ℤ, List, Option}
use Rattle.lk_outside.specs.Audio.{AudioSeen}
use Rattle.lk_outside.specs.Port.{PortSeen}
use Rattle.lk_outside.specs.Stream.{Stream}
use Rattle.lk_outside.specs.Talk.{TalkSeen}
use Rattle.link_live.specs.Report.{ReportValue}
use Rattle.link_control.specs.declared.log.LineLog.{LineLog}

-- the input, the port, the audio device, the talk, how late the pace answers where it tells that, the output, and what is told of the last
-- run, with its log
pub record AllSeen : Type 0 where
  pub input : Stream
  pub port : PortSeen
  pub audio : AudioSeen
  pub talk : TalkSeen
  pub late : Option ℤ
  pub out : Stream
  pub report : ReportValue
  pub log : List LineLog

abbrev pub all_seen : Stream → PortSeen → AudioSeen → TalkSeen → Option ℤ → Stream → ReportValue → List LineLog → AllSeen
all_seen input port audio talk late out report log = record {
  input = input;
  port = port;
  audio = audio;
  talk = talk;
  late = late;
  out = out;
  report = report;
  log = log;
}
