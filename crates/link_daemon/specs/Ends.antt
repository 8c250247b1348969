-- How a call of the program may end: as the command that its words name does.
use Rattle.std.specs.Prelude.{◌≡◌, ℕ, List, Option, Some, None}
use Rattle.std.specs.declared.alloc.Global.{Global}
use Rattle.std.specs.declared.string.String.{String}
use Rattle.link_words.specs.CommandNames.{named_by}
use Rattle.link_words.specs.declared.command_name.CommandName.{CommandName}
use Rattle.link_words.specs.declared.command_name.CommandName.TheVariants as name
use Rattle.link_commands.specs.Statuses.{EndsDecode, EndsFilter, EndsLoad, EndsMidi, EndsReplay}
use Rattle.link_commands.specs.declared.status.Status.{Status}
use Rattle.link_commands.specs.declared.status.Status.TheVariants as status
use Rattle.link_daemon.specs.ControlEnds.{ControlSeen, EndsControl, control_seen_of}
use Rattle.link_live_command.specs.LiveEnds.{EndsLive}
use Rattle.link_live_command.specs.Outside.{Outside, outside_of}
use Rattle.link_daemon.specs.AllSeen.{AllSeen}

-- Rule: Words that name no command end with status 2, and nothing is read or written.
pub record EndsUnnamed (before after : AllSeen) (end : Status) : Type 0 where
  pub words_at_fault : end ≡ status.Words
  pub untouched : after ≡ before

-- Rule: Commands other than `live` and `control` leave the network, the audio device, the talk and the report alone.
pub record IsAside (before after : AllSeen) : Type 0 where
  pub port_stays : after.port ≡ before.port
  pub audio_stays : after.audio ≡ before.audio
  pub late_stays : after.late ≡ before.late
  pub report_stays : after.report ≡ before.report
  pub talk_stays : after.talk ≡ before.talk
  pub log_stays : after.log ≡ before.log

-- what only `control` is given stays
pub record IsUntalked (before after : AllSeen) : Type 0 where
  pub talk_stays : after.talk ≡ before.talk
  pub log_stays : after.log ≡ before.log

-- what a live run is given of all, beside the input
abbrev pub live_seen : AllSeen → Outside
live_seen all = outside_of all.port all.audio all.late all.out all.report

-- what a run under control is given of all, beside the input
abbrev pub control_seen : AllSeen → ControlSeen
control_seen all = control_seen_of all.port all.talk all.late all.out all.report all.log

-- Rule: A run is that of the command that its first word names.
abbrev pub EndsNamed : Option CommandName → List (String Global) → ℕ → AllSeen → AllSeen → Status → Type 0
EndsNamed (Some name.Replay) words seed before after end =
    EndsReplay words before.input after.input before.out after.out end × IsAside before after
EndsNamed (Some name.Decode) words seed before after end =
    EndsDecode words before.input after.input before.out after.out end × IsAside before after
EndsNamed (Some name.Load) words seed before after end =
    EndsLoad words before.out after.out end × (after.input ≡ before.input) × IsAside before after
EndsNamed (Some name.Live) words seed before after end =
    EndsLive words seed before.input after.input (live_seen before) (live_seen after) end × IsUntalked before after
EndsNamed (Some name.Filter) words seed before after end =
    EndsFilter words before.input after.input before.out after.out end × IsAside before after
EndsNamed (Some name.Midi) words seed before after end =
    EndsMidi words before.input after.input before.out after.out end × IsAside before after
-- the audio device is given to `live` alone
EndsNamed (Some name.Control) words seed before after end =
    EndsControl words seed before.input after.input (control_seen before) (control_seen after) end × (after.audio ≡ before.audio)
EndsNamed None words seed before after end = EndsUnnamed before after end

abbrev pub Ends : List (String Global) → ℕ → AllSeen → AllSeen → Status → Type 0
Ends words = EndsNamed (named_by words) words
