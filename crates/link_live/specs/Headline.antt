-- What a live run promises, however it ends: what is recorded, published and sent, what the audio thread did, and what the application did.
use Rattle.std.specs.Prelude.{◌≡◌, ◌≤◌, ◌<◌, ℕ, ℤ, pos, Bool, true, false, not, List, [], ◌∷◌, ◌++◌, length, All, Option}
use Rattle.std.specs.List.{AllByRecursion}
use mathlib.Core.Option.{some}
use lib.ListN.{get_elem?}
use Rattle.audio_handoff.specs.Cell.{Grows}
use Rattle.lk_base.specs.declared.endpoint.Endpoint.{Endpoint}
use Rattle.lk_outside.specs.Arrivals.{ArrivalValue, PostValue}
use Rattle.lk_outside.specs.Audio.{AudioContents}
use Rattle.lk_outside.specs.Contents.{BothTell}
use Rattle.lk_outside.specs.Pace.{IsPaced}
use Rattle.lk_outside.specs.Port.{PortContents}
use Rattle.client_state.specs.declared.state.State.{State}
use Rattle.session_choice.specs.Best.{IsBest}
use Rattle.link_node.specs.Brought.{IsToldIn}
use Rattle.link_node.specs.Config.{ConfigValue}
use Rattle.link_node.specs.Event.{EventValue}
use Rattle.link_node.specs.Machine.{Machine, timeline_in}
use Rattle.link_node.specs.Opening.{opened}
use Rattle.link_node.specs.Runs.{machine_after, published_of, sent_of}
use Rattle.link_node.specs.Staying.{ShowsBest}
use Rattle.link_node.specs.Step.{sends_of}
use Rattle.link_shared.specs.Audio.{AudioView}
use Rattle.link_shared.specs.Journal.{app_commits_in, last_audio_in, AreCarried}
use Rattle.link_shared.specs.Passes.{AppView}
use Rattle.link_shared.specs.declared.capture.Capture.{Capture}
use Rattle.link_script.specs.declared.live_script.AppCommand.{AppCommand}
use Rattle.link_script.specs.declared.live_script.BlockCommand.{BlockCommand}
use Rattle.link_live.specs.AudioRun.{IsAudioRun}
use Rattle.link_live.specs.Journal.{AreInOrder, IsHeard, ticks_in, has_ended}
use Rattle.link_live.specs.Network.{ArePostedBefore, HasGrown, locals_of, posts_of}
use Rattle.link_live.specs.Report.{ReportValue}
use Rattle.link_live.specs.ScriptRun.{IsScriptRun}

-- how a run is set up: the node's config, how many events the journal takes and how many blocks are played at most, and the commands
pub record LiveSetup : Type 0 where
  pub config : ConfigValue
  pub events : ℕ
  pub blocks : ℕ
  pub apps : List AppCommand
  pub block_commands : List BlockCommand

-- what a run met: whether memory sufficed for each capture, whether the port failed, whether the device worked, and whether an event found
-- no room
pub record Course : Type 0 where
  pub captured : Bool
  pub failed : Bool
  pub played : Bool
  pub full : Bool

-- Rule: The journal of a run ends with the end, unless an event found no room.
-- The events are in the one order, begin with a tick as far as they are datagrams and ticks, and end with the end; where an event found no
-- room, there are as many as may be, and no end.
pub record IsJournal (opening : Machine) (most : ℕ) (full : Bool) (events : List EventValue) : Type 0 where
  pub in_order : AreInOrder opening [] events
  pub ticked : full ≡ false → 0 < ticks_in events
  pub ended : full ≡ false → has_ended events ≡ true
  pub cut : full ≡ true → (length events ≡ most) × (has_ended events ≡ false)
  pub fits : length events ≤ most

-- Rule: The datagrams that a run heard stand in its journal, but perhaps for the last where an event found no room; it posted what a replay
-- of the journal sends, or the first of it where the port failed.
-- What came was heard, and all that the machine sends for the events was posted, in order, on the gates of the config; or the first of it
-- where the port failed, and no less than what was sent for the events before each datagram.
pub record WasSent (config : ConfigValue) (now : ℤ) (failed full : Bool) (events : List EventValue) (port port_then : Option PortContents) (gates : List Endpoint) : Type 0 where
  pub arrivals : List ArrivalValue
  pub heard : IsHeard full config now arrivals events
  pub posts : List PostValue
  pub posted : BothTell (HasGrown arrivals posts) port port_then
  pub all : failed ≡ false → posts ≡ posts_of (sent_of config now events)
  pub first : Grows posts (posts_of (sent_of config now events))
  pub before : ArePostedBefore config now events posts
  pub bound : failed ≡ false → gates ≡ locals_of config

-- Rule: Each state that a run read or captured was published under its number.
abbrev pub ArePublished : List State → List Capture → Type 0
ArePublished published captures = All (λ capture. get_elem? published capture.number ≡ some capture.state) captures

abbrev pub new_audio : AudioView
new_audio = record { seen = []; looks = []; made = [] }

-- what was read, shown and played for each block
pub record WerePlayed (setup : LiveSetup) (played : Bool) (audio audio_then : Option AudioContents) (report : ReportValue) : Type 0 where
  pub pass : AudioView
  pub run : IsAudioRun setup.blocks setup.block_commands new_audio pass audio audio_then report.reads report.audio_commits report.plays (not played)
  pub published : ArePublished report.published report.reads

-- what was captured and shown for each command
pub record WereCaptured (setup : LiveSetup) (captured : Bool) (late : Option ℤ) (report : ReportValue) : Type 0 where
  pub pass : AppView
  pub run : IsScriptRun late setup.apps pass report.captures report.app_commits captured
  pub published : ArePublished report.published report.captures

-- Rule: Each timeline sent is the first of greatest beat origin that its session has taken.
abbrev pub AreBest : Machine → List EventValue → Type 0
AreBest opening events =
    (before after : List EventValue) (e : EventValue) → events ≡ before ++ e ∷ after
    → AllByRecursion (IsToldIn (machine_after opening before) e) (sends_of (machine_after opening before) e)
    × IsBest
    ((machine_after opening before).sessions.current.first ∷ (machine_after opening before).sessions.current.later)
    (timeline_in (machine_after opening before))

-- at the opening and after each event the state published last shows a client's timeline that follows its session's first of greatest
-- beat origin
abbrev pub ShowBest : Machine → List EventValue → Type 0
ShowBest opening events =
    (before after : List EventValue) → events ≡ before ++ after → ShowsBest (machine_after opening before)

-- ---- what is recorded

-- Rule: The states that a run published are those of a replay of its journal.
-- What is recorded of the node, published and sent, whatever applications there were: the journal has the events in the one order taken,
-- what was published and sent is what a replay of it gives, and each session's timeline, which clients are shown, is the first of greatest
-- beat origin taken.
pub record IsRecorded (given : ConfigValue) (most : ℕ) (late : Option ℤ) (failed full : Bool) (port port_then : Option PortContents) (gates : List Endpoint) (report : ReportValue) : Type 0 where
  pub config : report.config ≡ given
  pub opening : IsPaced late (pos 0) report.now
  pub journal : IsJournal (opened report.config report.now) most full report.events
  pub published : report.published ≡ published_of report.config report.now report.events
  pub sent : WasSent report.config report.now failed full report.events port port_then gates
  pub timelines : AreBest (opened report.config report.now) report.events
  pub clients : ShowBest (opened report.config report.now) report.events

-- ---- what the audio thread and the application did

-- Rule: Each audio commit in the journal is the one made under its number, and the last one made is there, unless an event found no room.
-- What was read and played. Of the audio thread's commits, those that stand in the journal carry what was made under their numbers, which
-- rise; the last one made is among them, unless an event found no room.
pub record IsAudioPart (setup : LiveSetup) (played full : Bool) (audio audio_then : Option AudioContents) (report : ReportValue) : Type 0 where
  pub reads : WerePlayed setup played audio audio_then report
  pub audio_commits : AreCarried report.audio_commits report.events
  pub last_audio_commit : full ≡ false → last_audio_in 0 report.events ≡ length report.audio_commits

-- Rule: The script's commits stand in the journal each once and in order, all of them unless an event found no room.
-- What was captured. Of the application's commits the first stand in the journal, each once and in order; all of them, unless an event
-- found no room.
pub record IsScriptPart (setup : LiveSetup) (captured full : Bool) (late : Option ℤ) (report : ReportValue) : Type 0 where
  pub captures : WereCaptured setup captured late report
  pub app_begin : Grows (app_commits_in report.events) report.app_commits
  pub app_commits : full ≡ false → app_commits_in report.events ≡ report.app_commits

-- ---- the whole

-- A live run sends and publishes what replay gives for its journal, its events in the one order taken; however the threads step, every
-- audio read and every capture is one whole published state, never older than one that the same thread read before; application commits
-- stand in the journal once and in order, audio commits by rising number; each session's timeline is the first of greatest beat origin
-- taken. What a reader was told of otherwise is the cells' and the link's promise: in a run it is told of its own reads alone.
pub record IsLiveRun (setup : LiveSetup) (late : Option ℤ) (course : Course) (port port_then : Option PortContents) (gates : List Endpoint) (audio audio_then : Option AudioContents) (report : ReportValue) : Type 0 where
  pub recorded : IsRecorded setup.config setup.events late course.failed course.full port port_then gates report
  pub played : IsAudioPart setup course.played course.full audio audio_then report
  pub taken : IsScriptPart setup course.captured course.full late report
