-- How a live run ends.
use Rattle.std.specs.Prelude.{◌≡◌, ◌≤◌, ◌<◌, ◌^◌, ℕ, ℤ, Bool, true, false, if◌then◌else◌, List, [], length, map, All, Option}
use Rattle.std.specs.Vec.{vec_capacity}
use Rattle.lk_outside.specs.Audio.{AudioSeen}
use Rattle.lk_outside.specs.Faults.{Rose}
use Rattle.lk_outside.specs.Port.{PortSeen}
use Rattle.link_node.specs.Config.{ConfigValue, GateValue}
use Rattle.link_node.specs.Event.{event_value}
use Rattle.link_script.specs.LiveScript.{IsCommand, IsLiveText, app, block}
use Rattle.link_script.specs.declared.live_script.AppCommand.{AppCommand}
use Rattle.link_script.specs.declared.live_script.BlockCommand.{BlockCommand}
use Rattle.link_script.specs.declared.live_script.LiveScript.{LiveScript}
use Rattle.link_live.specs.Headline.{Course, LiveSetup, IsLiveRun}
use Rattle.link_live.specs.Report.{ReportValue}
use Rattle.link_live.specs.declared.run.LiveEnd.{LiveEnd}
use Rattle.link_live.specs.declared.run.LiveEnd.TheVariants as end
use Rattle.link_live.specs.declared.run.LiveRun.{LiveRun}
use Rattle.link_live.specs.declared.room.Room.{Room}

abbrev pub setup_of : ConfigValue → ℕ → LiveScript → ℕ → LiveSetup
setup_of config most script blocks = record {
  config = config;
  events = most;
  blocks = blocks;
  apps = script.apps.items;
  block_commands = script.blocks.items;
}

-- what is told of a run whose node was opened so
abbrev pub told_of : ConfigValue → ℤ → LiveRun → ReportValue
told_of config now run = record {
  config = config;
  now = now;
  events = map event_value run.events.items;
  published = run.published.items;
  reads = run.audio.reads.items;
  captures = run.script.captures.items;
  app_commits = run.script.commits.items;
  audio_commits = run.audio.commits.items;
  plays = map (λ clicks. clicks.items) run.audio.plays.items;
}

-- the script is one that can be read, and all lists are empty and have the room that they will need
pub record IsReady (script : LiveScript) (blocks : ℕ) (room : Room) : Type 0 where
  pub apps : All (λ command. IsCommand (app command)) script.apps.items
  pub commands : All (λ command. IsCommand (block command)) script.blocks.items
  pub few : length script.blocks.items < 2 ^ 60
  pub reads : (room.audio.reads.items ≡ []) × (blocks ≤ vec_capacity room.audio.reads)
  pub plays : (room.audio.plays.items ≡ []) × (blocks ≤ vec_capacity room.audio.plays)
  pub audio_commits : (room.audio.commits.items ≡ []) × (length script.blocks.items ≤ vec_capacity room.audio.commits)
  pub captures : (room.script.captures.items ≡ []) × (length script.apps.items ≤ vec_capacity room.script.captures)
  pub app_commits : (room.script.commits.items ≡ []) × (length script.apps.items ≤ vec_capacity room.script.commits)

-- Rule: A run ends by the first cause that holds: no memory for a capture, the port, the audio device, a full journal.
abbrev pub first_of : Bool → Bool → Bool → Bool → LiveEnd
first_of captured failed played full =
    if captured then (if failed then end.Port else (if played then (if full then end.Events else end.Well) else end.Audio)) else end.Memory

-- What the run met, by which its end goes, with the causes; and what is promised of it then.
pub record EndsLiveRun (setup : LiveSetup) (late : Option ℤ) (port port_then : PortSeen) (audio audio_then : AudioSeen) (report : ReportValue) (ended : LiveEnd) : Type 0 where
  pub course : Course
  pub ended_is : ended ≡ first_of course.captured course.failed course.played course.full
  pub port_works : course.failed ≡ false → port_then.faults ≡ port.faults
  pub port_fails : course.failed ≡ true → Rose port.faults port_then.faults
  pub audio_works : course.played ≡ true → audio_then.faults ≡ audio.faults
  pub audio_fails : course.played ≡ false → Rose audio.faults audio_then.faults
  pub run : IsLiveRun setup late course port.told port_then.told port_then.gates audio.told audio_then.told report

-- each command that a live script says is one that a run can take
abbrev pub ScriptsHaveCommands : Type 0
ScriptsHaveCommands =
    (text : List ℕ) (mpb : ℤ) (sync : Bool) (gates : List GateValue) (apps : List AppCommand) (blocks : List BlockCommand)
    → IsLiveText text mpb sync gates apps blocks
    → All (λ (command : AppCommand). IsCommand (app command)) apps × All (λ (command : BlockCommand). IsCommand (block command)) blocks
