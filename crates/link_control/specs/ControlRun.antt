-- What a run under control promises, however it ends: what is recorded, published and sent, what the client was answered, and what was
-- captured and committed for it.
use Rattle.std.specs.Prelude.{◌≡◌, ◌⊎◌, ◌≤◌, ℕ, ℤ, Bool, true, false, if◌then◌else◌, List, [], map, Option, Some}
use Rattle.std.specs.Vec.{vec_capacity}
use Rattle.audio_handoff.specs.Cell.{Grows}
use Rattle.lk_base.specs.declared.endpoint.Endpoint.{Endpoint}
use Rattle.lk_outside.specs.Faults.{Rose}
use Rattle.lk_outside.specs.Port.{PortContents, PortSeen}
use Rattle.lk_outside.specs.Talk.{TalkSeen}
use Rattle.link_node.specs.Config.{ConfigValue}
use Rattle.link_node.specs.Event.{event_value}
use Rattle.link_shared.specs.Journal.{AreCarried, app_commits_in}
use Rattle.link_shared.specs.Passes.{AppView}
use Rattle.link_live.specs.Headline.{ArePublished, IsRecorded}
use Rattle.link_live.specs.NodeRun.{new_app}
use Rattle.link_live.specs.Report.{ReportValue}
use Rattle.link_control.specs.Log.{AreCounted, captures_in, commits_in}
use Rattle.link_control.specs.Serving.{HasServed}
use Rattle.link_control.specs.declared.log.LineLog.{LineLog}
use Rattle.link_control.specs.declared.log.SessionLog.{SessionLog}
use Rattle.link_control.specs.declared.room.ControlRoom.{ControlRoom}
use Rattle.link_control.specs.declared.run.ControlEnd.{ControlEnd}
use Rattle.link_control.specs.declared.run.ControlEnd.TheVariants as end
use Rattle.link_control.specs.declared.run.ControlRun.{ControlRun}
use Rattle.link_control.specs.declared.server.Served.{Served}
use Rattle.link_control.specs.declared.server.Served.TheVariants as served

-- how a run is set up: the node's config, how many events the journal takes, and the endpoint of the talk
pub record ControlSetup : Type 0 where
  pub config : ConfigValue
  pub events : ℕ
  pub at : Endpoint

-- what is told of a run whose node was opened so: there is no audio thread
abbrev pub told_of : ConfigValue → ℤ → ControlRun → ReportValue
told_of config now run = record {
  config = config;
  now = now;
  events = map event_value run.events.items;
  published = run.published.items;
  reads = [];
  captures = run.captures.items;
  app_commits = run.commits.items;
  audio_commits = [];
  plays = [];
}

-- the lists are empty and have the room that they will need
pub record IsReady (room : ControlRoom) (session : SessionLog) : Type 0 where
  pub captures : (room.captures.items ≡ []) × (4_096 ≤ vec_capacity room.captures)
  pub commits : (room.commits.items ≡ []) × (4_096 ≤ vec_capacity room.commits)
  pub log : (session.lines.items ≡ []) × (4_096 ≤ vec_capacity session.lines)

-- Rule: A run under control ends by the first cause that holds: no memory for a capture, the port, the talk, a full journal, too many
-- lines.
abbrev pub first_of : Served → Bool → Bool → ControlEnd
first_of (served.Memory error) failed full = end.Memory
first_of served.Failed failed full = if failed then end.Port else end.Talk
first_of served.Ended failed full = if failed then end.Port else (if full then end.Events else end.Well)
first_of served.Lines failed full = if failed then end.Port else (if full then end.Events else end.Lines)

-- Only for proofs: the pass is that of a link that is opened, and the log is empty and has the room that it will need.
pub record CanServe (pass : AppView) (session : SessionLog) : Type 0 where
  pub fresh : pass ≡ new_app
  pub log : (session.lines.items ≡ []) × (4_096 ≤ vec_capacity session.lines)

-- Rule: The talk of `control` is opened at the endpoint given; where it can't be, nothing is heard, written or logged.
abbrev pub IsTalked : Endpoint → Option ℤ → TalkSeen → TalkSeen → AppView → List LineLog → Served → Type 0
IsTalked at late talk talk_then pass log ended =
    HasServed late (record talk { opened = Some at }) talk_then new_app pass log ended
    ⊎ ((ended ≡ served.Failed) × Rose talk.faults talk_then.faults × (talk_then ≡ record talk { faults = talk_then.faults })
    × (log ≡ []) × (pass ≡ new_app))

-- Rule: The client's commits count from 1 and stand in the journal each once and in order, all of them unless an event found no room.
-- What was captured and committed for the client, and answered: the report tells just what the log does. Each capture is a state that was
-- published; of the commits, numbered from 1, the first stand in the journal, each once and in order; all do, unless an event found no
-- room.
pub record IsClientPart (setup : ControlSetup) (late : Option ℤ) (ended : Served) (full : Bool) (talk talk_then : TalkSeen) (report : ReportValue) (log : List LineLog) : Type 0 where
  pub pass : AppView
  pub talked : IsTalked setup.at late talk talk_then pass log ended
  pub captures : report.captures ≡ captures_in log
  pub commits : report.app_commits ≡ map (λ commit. commit.1) (commits_in log)
  pub counted : AreCounted 0 (commits_in log)
  pub published : ArePublished report.published report.captures
  pub begin : Grows (app_commits_in report.events) report.app_commits
  pub all : full ≡ false → app_commits_in report.events ≡ report.app_commits

-- there is no audio thread, and no commit of one in the journal
pub record HasNoAudio (report : ReportValue) : Type 0 where
  pub reads : report.reads ≡ []
  pub commits : report.audio_commits ≡ []
  pub plays : report.plays ≡ []
  pub carried : AreCarried [] report.events

-- ---- the whole

-- Rule: A run under control is recorded, published and sent as a live run is, however it ends.
-- A run under control sends and publishes what replay gives for its journal, its events in the one order taken; however the threads step,
-- every capture is one whole published state, never older than one captured before; the client's commits stand in the journal once and in
-- order, and its lines are answered by what was captured and committed for them.
pub record IsControlRun (setup : ControlSetup) (late : Option ℤ) (ended : Served) (failed full : Bool) (port port_then : Option PortContents) (gates : List Endpoint) (talk talk_then : TalkSeen) (report : ReportValue) (log : List LineLog) : Type 0 where
  pub recorded : IsRecorded setup.config setup.events late failed full port port_then gates report
  pub served : IsClientPart setup late ended full talk talk_then report log
  pub silent : HasNoAudio report

-- What the run met, by which its end goes, with the causes; and what is promised of it then.
pub record EndsControlRun (setup : ControlSetup) (late : Option ℤ) (port port_then : PortSeen) (talk talk_then : TalkSeen) (report : ReportValue) (log : List LineLog) (ended : ControlEnd) : Type 0 where
  pub served : Served
  pub failed : Bool
  pub full : Bool
  pub ended_is : ended ≡ first_of served failed full
  pub port_works : failed ≡ false → port_then.faults ≡ port.faults
  pub port_fails : failed ≡ true → Rose port.faults port_then.faults
  pub run : IsControlRun setup late served failed full port.told port_then.told port_then.gates talk talk_then report log

-- by how a run ended, what it met
pub record EndsTell : Type 0 where
  pub well : (ended : Served) (failed full : Bool) → end.Well ≡ first_of ended failed full → (ended ≡ served.Ended) × (failed ≡ false) × (full ≡ false)
  pub lines : (ended : Served) (failed full : Bool) → end.Lines ≡ first_of ended failed full → (ended ≡ served.Lines) × (failed ≡ false) × (full ≡ false)
  pub events : (ended : Served) (failed full : Bool) → end.Events ≡ first_of ended failed full
      → ((ended ≡ served.Ended) ⊎ (ended ≡ served.Lines)) × (failed ≡ false) × (full ≡ true)
  pub talk : (ended : Served) (failed full : Bool) → end.Talk ≡ first_of ended failed full → (ended ≡ served.Failed) × (failed ≡ false)
  pub port : (ended : Served) (failed full : Bool) → end.Port ≡ first_of ended failed full
      → (failed ≡ true) × ((ended ≡ served.Ended) ⊎ ((ended ≡ served.Failed) ⊎ (ended ≡ served.Lines)))
