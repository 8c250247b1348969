-- A run under control from what its node's run left.
use Rattle.std.proofs.Common.{◌≡◌, ℕ, ℤ, pos, Bool, List, [], Option, refl, subst}
use Rattle.lk_base.specs.declared.endpoint.Endpoint.{Endpoint}
use Rattle.lk_outside.specs.Pace.{IsPaced}
use Rattle.lk_outside.specs.Port.{PortSeen}
use Rattle.lk_outside.specs.Talk.{TalkSeen}
use Rattle.client_state.specs.declared.commit.Commit.{Commit}
use Rattle.client_state.specs.declared.state.State.{State}
use Rattle.link_node.specs.Config.{ConfigValue}
use Rattle.link_node.specs.Event.{EventValue}
use Rattle.link_shared.specs.Audio.{AudioView}
use Rattle.link_shared.specs.Journal.{AreCarried}
use Rattle.link_shared.specs.Passes.{AppView}
use Rattle.link_shared.specs.declared.capture.Capture.{Capture}
use Rattle.link_live.specs.Headline.{new_audio}
use Rattle.link_live.specs.NodeRun.{IsNodeRun}
use Rattle.link_live.specs.Report.{ReportValue}
use Rattle.link_live.proofs.NodeRunLemmas.{recorded_late}
use Rattle.link_control.specs.ControlRun.{ControlSetup, EndsControlRun, IsTalked, first_of}
use Rattle.link_control.specs.Log.{captures_in}
use Rattle.link_control.specs.declared.log.LineLog.{LineLog}
use Rattle.link_control.specs.declared.server.Served.{Served}
use Rattle.link_control.proofs.ClientLemmas.{is_client_part, made_in}

module _ (config : ConfigValue) (now : ℤ) (most : ℕ) (at : Endpoint) (late : Option ℤ) (p0 p1 : PortSeen) (talk talk_then : TalkSeen)
    (events : List EventValue) (published : List State) (captures : List Capture) (commits : List Commit) (log : List LineLog) where
  abbrev told : ReportValue
  told = record {
    config = config;
    now = now;
    events = events;
    published = published;
    reads = [];
    captures = captures;
    app_commits = commits;
    audio_commits = [];
    plays = [];
  }

  abbrev setup : ControlSetup
  setup = record { config = config; events = most; at = at }

  pub control_ends : (audio : AudioView) (app : AppView) (ended : Served) (failed full : Bool) → IsPaced late (pos 0) now
      → IsNodeRun config now most failed full p0 p1 audio app events published → audio ≡ new_audio
      → IsTalked at late talk talk_then app log ended → captures ≡ captures_in log → commits ≡ made_in log
      → EndsControlRun setup late p0 p1 talk talk_then told log (first_of ended failed full)
  control_ends audio app ended failed full opening run still talked captures_are commits_are = record {
    served = ended;
    failed = failed;
    full = full;
    ended_is = refl;
    port_works = run.works;
    port_fails = run.fails;
    run = record {
      recorded = recorded_late config now most late failed full p0.told p1.told p1.gates events published told opening run.recorded;
      served = is_client_part app audio events published full setup late ended talk talk_then told log run.fits talked captures_are commits_are;
      -- an audio thread that made no commit has none in the journal
      silent = record {
        reads = refl;
        commits = refl;
        plays = refl;
        carried = subst (λ (v : AudioView). AreCarried v.made events) still run.fits.audio_commits;
      };
    };
  }
