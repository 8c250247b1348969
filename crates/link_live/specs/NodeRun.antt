-- What every run of a node promises, whatever ran beside the network's loop.
use Rattle.std.specs.Prelude.{◌≡◌, ℕ, ℤ, Bool, true, false, List, [], length, None}
use Rattle.atomic_table.specs.Seated.{TableId}
use Rattle.audio_handoff.specs.Cell.{Grows}
use Rattle.lk_outside.specs.Faults.{Rose}
use Rattle.lk_outside.specs.Port.{PortSeen}
use Rattle.client_state.specs.declared.commit.Commit.{Commit}
use Rattle.client_state.specs.declared.state.State.{State}
use Rattle.link_node.specs.Config.{ConfigValue}
use Rattle.link_node.specs.Event.{EventValue}
use Rattle.link_shared.specs.Audio.{AudioView}
use Rattle.link_shared.specs.Ending.{HasHeard, WerePublished}
use Rattle.link_shared.specs.Journal.{AreCarried, app_commits_in, last_audio_in}
use Rattle.link_shared.specs.Parts.{PartsView}
use Rattle.link_shared.specs.Passes.{AppView}
use Rattle.link_live.specs.Headline.{IsRecorded}
use Rattle.link_live.specs.Report.{ReportValue}

-- these parts are those of the link that a type names: its cells, its queue and its ledger
abbrev pub ArePartsOf : (app_states audio_states audio_commits queue : TableId) → (ledger shares whole : ℕ) → PartsView → Type 0
ArePartsOf app_states audio_states audio_commits queue ledger shares whole parts =
    (parts.app_states ≡ app_states) × (parts.audio_states ≡ audio_states) × (parts.audio_commits ≡ audio_commits)
    × (parts.queue ≡ queue) × (parts.ledger ≡ ledger) × (parts.shares ≡ shares) × (whole ≡ shares)

-- the first application's pass of a link that is opened: the only one, which has captured and committed nothing
abbrev pub new_app : AppView
new_app = record { seen = []; pushed = []; made = 0; own = None; room = 65_535; sole = true }

-- what is told of a node that was opened so, whatever ran beside it
abbrev pub recorded_of : ConfigValue → ℤ → List EventValue → List State → ReportValue
recorded_of config opened_at events published = record {
  config = config;
  now = opened_at;
  events = events;
  published = published;
  reads = [];
  captures = [];
  app_commits = [];
  audio_commits = [];
  plays = [];
}

-- Rule: What both passes read was published; of the audio thread's commits the last one made stands in the journal, and of the
-- applications' all, each once and in order, unless an event found no room.
-- Of the audio thread's commits those in the journal carry what was made under their numbers, which rise, the last one made among them; of
-- the applications' the first stand there, each once and in order.
pub record FitsJournal (full : Bool) (audio : AudioView) (app : AppView) (events : List EventValue) (published : List State) : Type 0 where
  pub reads : WerePublished published audio.seen
  pub audio_commits : AreCarried audio.made events
  pub last_audio_commit : full ≡ false → last_audio_in 0 events ≡ length audio.made
  pub pushed : List Commit
  pub heard : HasHeard published pushed app
  pub app_begin : Grows (app_commits_in events) pushed
  pub app_commits : full ≡ false → app_commits_in events ≡ pushed

-- Rule: A run of a node is recorded and published as its journal is replayed, and posts what that sends, or the first of it where the port
-- failed, whatever ran beside the network's loop.
-- The port failed exactly where it could not be bound or its count of faults rose.
pub record IsNodeRun (config : ConfigValue) (opened_at : ℤ) (most : ℕ) (failed full : Bool) (port port_then : PortSeen) (audio : AudioView) (app : AppView) (events : List EventValue) (published : List State) : Type 0 where
  pub recorded : IsRecorded config most None failed full port.told port_then.told port_then.gates (recorded_of config opened_at events published)
  pub fits : FitsJournal full audio app events published
  pub works : failed ≡ false → port_then.faults ≡ port.faults
  pub fails : failed ≡ true → Rose port.faults port_then.faults
