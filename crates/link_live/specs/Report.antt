-- What a live run tells of itself.
use Rattle.std.specs.Prelude.{◌≡◌, ℤ, pos, List, [], map}
use Rattle.lk_base.specs.declared.block.Click.{Click}
use Rattle.client_state.specs.declared.commit.Commit.{Commit}
use Rattle.client_state.specs.declared.state.State.{State}
use Rattle.link_node.specs.Config.{ConfigValue, config_value}
use Rattle.link_node.specs.Event.{EventValue, event_value}
use Rattle.link_shared.specs.declared.capture.Capture.{Capture}
use Rattle.link_live.specs.declared.report.Report.{Report}

pub record ReportValue : Type 0 where
  pub config : ConfigValue
  pub now : ℤ
  pub events : List EventValue
  pub published : List State
  pub reads : List Capture
  pub captures : List Capture
  pub app_commits : List Commit
  pub audio_commits : List Commit
  pub plays : List (List Click)

abbrev pub report_value : Report → ReportValue
report_value report = record {
  config = config_value report.config;
  now = report.now;
  events = map event_value report.events.items;
  published = report.published.items;
  reads = report.reads.items;
  captures = report.captures.items;
  app_commits = report.app_commits.items;
  audio_commits = report.audio_commits.items;
  plays = map (λ clicks. clicks.items) report.plays.items;
}

-- nothing is told any more but the node of before
abbrev pub IsCleared : ReportValue → ReportValue → Type 0
IsCleared before after =
    after ≡ record before {
      events = [];
      published = [];
      reads = [];
      captures = [];
      app_commits = [];
      audio_commits = [];
      plays = [];
    }

-- of no run: a node without a gate, opened at 0, and nothing that is told of it
abbrev pub TellsNoRun : ReportValue → Type 0
TellsNoRun report = (report.config.gates ≡ []) × (report.now ≡ pos 0) × IsCleared report report
