-- How a call of `control` may end: each status with its cause, and what was read, run, answered, written and told then. The statuses are
-- tried in this order: the words, a failure of the source, a text over the limit, too many commands, a text that is no head of a live
-- script, a failure of the port, one of the talk, a full journal, more lines than are answered, a failure of the sink.
use Rattle.std.specs.Prelude.{◌≡◌, ◌≤◌, ◌+◌, ◌⊎◌, ℕ, ℤ, false, List, [], Option}
use Rattle.std.specs.declared.alloc.Global.{Global}
use Rattle.std.specs.declared.string.String.{String}
use Rattle.rand_pcg.specs.Lcg.{started, increment_of}
use Rattle.rand_pcg.specs.Pcg.{multiplier_64}
use Rattle.lk_base.specs.Ids.{drawn_id}
use Rattle.lk_outside.specs.Port.{PortSeen}
use Rattle.lk_outside.specs.Stream.{Stream}
use Rattle.lk_outside.specs.Talk.{TalkSeen}
use Rattle.lk_outside.specs.Transfer.{TakesWithin}
use Rattle.link_text.specs.LiveHead.{IsHeadText}
use Rattle.link_script.specs.LiveScript.{commands_told}
use Rattle.link_live.specs.Report.{IsCleared, ReportValue}
use Rattle.link_control.specs.ControlRun.{ControlSetup, EndsControlRun}
use Rattle.link_control.specs.declared.log.LineLog.{LineLog}
use Rattle.link_control.specs.declared.run.ControlEnd.{ControlEnd}
use Rattle.link_control.specs.declared.run.ControlEnd.TheVariants as end
use Rattle.link_words.specs.ControlWords.{BeginsControl, IsControl, NamesControl}
use Rattle.link_words.specs.declared.control_words.ControlOptions.{ControlOptions}
use Rattle.link_commands.specs.Statuses.{WasRead, WritesPart, WritesSome, WritesWhole}
use Rattle.link_commands.specs.declared.status.Status.{Status}
use Rattle.link_commands.specs.declared.status.Status.TheVariants as status
use Rattle.link_live_command.specs.ReportText.{live_text_of}
use Rattle.link_live_command.specs.ScriptRead.{EndsHeadRead}

-- what is seen of the objects that `control` is given, beside its input: the port, the talk, how late the pace answers where it tells that,
-- the output, and what is told of the last run, with its log
pub record ControlSeen : Type 0 where
  pub port : PortSeen
  pub talk : TalkSeen
  pub late : Option ℤ
  pub out : Stream
  pub report : ReportValue
  pub log : List LineLog

abbrev pub control_seen_of : PortSeen → TalkSeen → Option ℤ → Stream → ReportValue → List LineLog → ControlSeen
control_seen_of port talk late out report log = record {
  port = port;
  talk = talk;
  late = late;
  out = out;
  report = report;
  log = log;
}

-- ---- a run that was begun

-- What a run is set up by: its words, the head that was read to its end, and the seed, whose first id is the node's.
pub record IsControlSetUp (words : List (String Global)) (seed : ℕ) (input input' : Stream) (options : ControlOptions) (setup : ControlSetup) : Type 0 where
  pub named : NamesControl words options
  pub bytes : List ℕ
  pub read : WasRead 16_777_216 input input' bytes
  pub few : commands_told bytes ≤ 4_096
  pub head : IsHeadText bytes setup.config.mpb setup.config.sync setup.config.gates
  pub id : setup.config.id ≡ drawn_id (started 64 multiplier_64 seed (increment_of 64 1))
  pub seed_is : setup.config.seed ≡ seed
  pub events : setup.events ≡ options.events
  pub at : setup.at ≡ options.at
  pub quantum : setup.config.quantum ≡ options.quantum
  pub group : setup.config.group ≡ options.group

-- Rule: The summary of `control` has the two lines of a report of `live` without a record.
-- A run ended so, which holds to all that is promised of a run under control whatever it met, and so much of its summary was written.
pub record HasEndedControl (setup : ControlSetup) (before after : ControlSeen) (ended : ControlEnd) (Writes : Stream → Stream → List ℕ → Type 0) : Type 0 where
  pub run : EndsControlRun setup before.late before.port after.port before.talk after.talk after.report after.log ended
  pub written : Writes before.out after.out (live_text_of after.report false)

-- nothing was called but the input and the pace, and nothing is told anew
pub record StaysUncontrolled (before after : ControlSeen) : Type 0 where
  pub port_stays : after.port ≡ before.port
  pub talk_stays : after.talk ≡ before.talk
  pub out_stays : after.out ≡ before.out
  pub report_stays : after.report ≡ before.report
  pub log_stays : after.log ≡ before.log

-- How a run ends that was set up. Memory may be wanting for what it needs, before it begins, or for a capture in it.
abbrev pub EndsControlled : ControlSetup → ControlSeen → ControlSeen → Status → Type 0
EndsControlled setup before after status.Done = HasEndedControl setup before after end.Well WritesWhole
EndsControlled setup before after status.Sink = HasEndedControl setup before after end.Well WritesPart
EndsControlled setup before after status.Port = HasEndedControl setup before after end.Port WritesSome
EndsControlled setup before after status.Talk = HasEndedControl setup before after end.Talk WritesSome
EndsControlled setup before after status.Events = HasEndedControl setup before after end.Events WritesSome
EndsControlled setup before after status.Lines = HasEndedControl setup before after end.Lines WritesSome
EndsControlled setup before after status.Memory =
    StaysUncontrolled before after ⊎ HasEndedControl setup before after end.Memory WritesSome
EndsControlled setup before after other = ⊥

-- ---- the command

-- no run was begun: neither port nor talk was called, nothing was written, and the lists of the report and the log are empty
pub record IsControlNotBegun (before after : ControlSeen) : Type 0 where
  pub port_stays : after.port ≡ before.port
  pub talk_stays : after.talk ≡ before.talk
  pub out_stays : after.out ≡ before.out
  pub cleared : IsCleared before.report after.report
  pub log_cleared : after.log ≡ []

-- a run was set up by the words, the input and the seed, and ended so
pub record RunsControl (words : List (String Global)) (seed : ℕ) (input input' : Stream) (before after : ControlSeen) (ended : Status) : Type 0 where
  pub options : ControlOptions
  pub setup : ControlSetup
  pub set_up : IsControlSetUp words seed input input' options setup
  pub ends : EndsControlled setup before after ended

-- What a call of `control` did between `input`, `before` and `input'`, `after`.
abbrev pub EndsControl : List (String Global) → ℕ → Stream → Stream → ControlSeen → ControlSeen → Status → Type 0
EndsControl words seed input input' before after status.Words =
    (IsControl words → ⊥) × (input' ≡ input) × IsControlNotBegun before after
EndsControl words seed input input' before after status.Input =
    IsControl words × EndsHeadRead input input' status.Input × IsControlNotBegun before after
EndsControl words seed input input' before after (status.TooLong limit) =
    IsControl words × EndsHeadRead input input' (status.TooLong limit) × IsControlNotBegun before after
EndsControl words seed input input' before after (status.TooMany limit) =
    IsControl words × EndsHeadRead input input' (status.TooMany limit) × IsControlNotBegun before after
EndsControl words seed input input' before after (status.Script g line reason) =
    IsControl words × EndsHeadRead input input' (status.Script g line reason) × IsControlNotBegun before after
-- want of memory may come of any run, while its words are read too; where a run had begun, it ended
EndsControl words seed input input' before after status.Memory =
    BeginsControl words × TakesWithin (16_777_216 + 65_536) input.told input'.told × (input'.faults ≡ input.faults)
    × (IsControlNotBegun before after
    ⊎ ((options : ControlOptions) × (setup : ControlSetup) × IsControlSetUp words seed input input' options setup
    × HasEndedControl setup before after end.Memory WritesSome))
EndsControl words seed input input' before after other = RunsControl words seed input input' before after other
