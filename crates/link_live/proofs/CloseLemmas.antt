-- A live run from its parts: what its loops owe, and how it ends.
use Rattle.std.proofs.Common.{ℕ, ℤ, pos, ◌≤◌, Bool, List, [], ◌∷◌, length, map, Option, refl, ap, length-append, arith}
use Rattle.lk_base.specs.declared.block.Click.{Click}
use Rattle.lk_outside.specs.Audio.{AudioContents, AudioSeen}
use Rattle.lk_outside.specs.Pace.{IsPaced}
use Rattle.lk_outside.specs.Port.{PortSeen}
use Rattle.client_state.specs.declared.commit.Commit.{Commit}
use Rattle.client_state.specs.declared.state.State.{State}
use Rattle.link_node.specs.Config.{ConfigValue}
use Rattle.link_node.specs.Event.{EventValue}
use Rattle.link_shared.specs.Audio.{AudioView}
use Rattle.link_shared.specs.Passes.{AppView}
use Rattle.link_shared.specs.declared.capture.Capture.{Capture}
use Rattle.link_script.specs.declared.live_script.AppCommand.{AppCommand}
use Rattle.link_script.specs.declared.live_script.BlockCommand.{BlockCommand}
use Rattle.link_script.specs.declared.live_script.LiveScript.{LiveScript}
use Rattle.link_live.specs.AudioRun.{BlockRead, IsAudioRun, clicks_of_blocks}
use Rattle.link_live.specs.Headline.{LiveSetup, new_audio}
use Rattle.link_live.specs.LiveRun.{EndsLiveRun, IsReady, first_of}
use Rattle.link_live.specs.Loops.{CanPlay, CanTake, HasPlayedBlocks, HasTakenCommands}
use Rattle.link_live.specs.NodeRun.{IsNodeRun, new_app}
use Rattle.link_live.specs.Report.{ReportValue}
use Rattle.link_live.specs.declared.audio.AudioReport.{AudioReport}
use Rattle.link_live.specs.declared.room.Room.{Room}
use Rattle.link_live.specs.declared.script.ScriptReport.{ScriptReport}
use Rattle.link_live.proofs.NodeRunLemmas.{recorded_late}
use Rattle.link_live.proofs.PlayedLemmas.{is_audio_part}
use Rattle.link_live.proofs.TakenLemmas.{is_script_part}

-- ---- what the clients' loops owe

pub can_play : (blocks : ℕ) (script : LiveScript) (room : Room) → IsReady script blocks room → CanPlay blocks script.blocks.items new_audio room.audio
can_play blocks script room ready = record {
  each = ready.commands;
  numbers = omega (arith, ready.few);
  empty = (ready.reads.0, ready.audio_commits.0, ready.plays.0);
  room = (ready.reads.1, ready.plays.1);
  room_for_commits = ready.audio_commits.1;
}

pub can_take : (blocks : ℕ) (script : LiveScript) (room : Room) → IsReady script blocks room → CanTake script.apps.items new_app room.script
can_take blocks script room ready = record {
  each = ready.apps;
  sole = (refl, refl, refl, refl);
  empty = (ready.captures.0, ready.app_commits.0);
  room = (ready.captures.1, ready.app_commits.1);
}

-- ---- how it ends

pub run_ends : (config : ConfigValue) (now : ℤ) (most blocks : ℕ) (apps : List AppCommand) (list : List BlockCommand) (late : Option ℤ) (app : AppView) (pass : AudioView)
    (p0 p1 : PortSeen) (a0 a1 : AudioSeen) (audio_report : AudioReport) (script_report : ScriptReport)
    (events : List EventValue) (published : List State) (captured failed played full : Bool) → IsPaced late (pos 0) now
    → IsNodeRun config now most failed full p0 p1 pass app events published
    → HasPlayedBlocks blocks list new_audio pass a0 a1 audio_report played → HasTakenCommands late apps app script_report captured
    → EndsLiveRun (record { config = config; events = most; blocks = blocks; apps = apps; block_commands = list }) late p0 p1 a0 a1
    (record {
      config = config;
      now = now;
      events = events;
      published = published;
      reads = audio_report.reads.items;
      captures = script_report.captures.items;
      app_commits = script_report.commits.items;
      audio_commits = audio_report.commits.items;
      plays = map (λ clicks. clicks.items) audio_report.plays.items;
    })
    (first_of captured failed played full)
run_ends config now most blocks apps list late app pass p0 p1 a0 a1 audio_report script_report events published captured failed played full opening run audio script = record {
  course = record { captured = captured; failed = failed; played = played; full = full };
  ended_is = refl;
  port_works = run.works;
  port_fails = run.fails;
  audio_works = audio.cause.works;
  audio_fails = audio.cause.fails;
  run = record {
    recorded = recorded_late config now most late failed full p0.told p1.told p1.gates events published told opening run.recorded;
    played = is_audio_part pass app events published full setup played a0.told a1.told told run.fits audio.run;
    taken = is_script_part pass app events published full setup captured late told run.fits script;
  };
}
  where
    told : ReportValue
    told = record {
      config = config;
      now = now;
      events = events;
      published = published;
      reads = audio_report.reads.items;
      captures = script_report.captures.items;
      app_commits = script_report.commits.items;
      audio_commits = audio_report.commits.items;
      plays = map (λ clicks. clicks.items) audio_report.plays.items;
    }

    setup : LiveSetup
    setup = record { config = config; events = most; blocks = blocks; apps = apps; block_commands = list }

-- ---- how much was played

clicks_few : (captures : List Capture) (reads : List BlockRead) → length (clicks_of_blocks captures reads) ≤ length reads
clicks_few [] reads = omega arith
clicks_few (capture ∷ captures) [] = omega arith
clicks_few (capture ∷ captures) (read ∷ reads) = let rest = clicks_few captures reads in omega (arith, rest)

-- no more blocks are played than asked for
pub plays_few : (most : ℕ) (commands : List BlockCommand) (before after : AudioView) (told told_then : Option AudioContents)
    (reads : List Capture) (commits : List Commit) (plays : List (List Click)) (failed : Bool)
    → IsAudioRun most commands before after told told_then reads commits plays failed → length plays ≤ most
plays_few most commands before after told told_then reads commits plays failed run =
    omega (arith, run.few, length-append run.played run.unplayed, clicks_few reads run.played, ap length run.plays_are)
