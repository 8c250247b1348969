-- A run of a node from its parts, and what a side's own run makes of it.
use Rattle.std.proofs.Common.{◌≡◌, ℕ, ℤ, pos, Bool, true, false, List, [], ◌∷◌, ◌++◌, Option, None}
use Rattle.lk_base.specs.Ranges.{IsMoment}
use Rattle.lk_base.specs.declared.endpoint.Endpoint.{Endpoint}
use Rattle.lk_outside.specs.Faults.{Rose}
use Rattle.lk_outside.specs.Pace.{IsPaced}
use Rattle.lk_outside.specs.Port.{PortContents, PortSeen}
use Rattle.client_state.specs.declared.state.State.{State}
use Rattle.link_node.specs.Config.{ConfigValue}
use Rattle.link_node.specs.Event.{EventValue, SendingValue}
use Rattle.link_shared.specs.Audio.{AudioView}
use Rattle.link_shared.specs.Ending.{HasEnded}
use Rattle.link_shared.specs.Hub.{HubView, new_hub}
use Rattle.link_shared.specs.Passes.{AppView}
use Rattle.link_live.specs.Headline.{IsRecorded}
use Rattle.link_live.specs.Loops.{HasRun}
use Rattle.link_live.specs.Network.{locals_of}
use Rattle.link_live.specs.NodeRun.{FitsJournal, IsNodeRun, recorded_of}
use Rattle.link_live.specs.Report.{ReportValue}
use Rattle.link_live.specs.Running.{HasPosted, RunLaws}
use Rattle.link_live.specs.declared.network.NetEnd.{NetEnd}
use Rattle.link_live.proofs.AppLemmas.{was_heard}
use Rattle.link_live.proofs.NetworkLemmas.{HasClosed, network_closes, only_handed}
use Rattle.link_live.proofs.RecordedLemmas.{BestLaw}

-- what the passes left, where the application's is the only one that was handed in
fits_journal : (hub : HubView) (audio : AudioView) (app : AppView) (clock : ℤ) (events : List EventValue) (published : List State) (sends : List SendingValue) (full : Bool)
    → HasEnded hub audio clock events published sends full → hub.handed ≡ app ∷ [] → FitsJournal full audio app events published
fits_journal hub audio app clock events published sends full last only = record {
  reads = last.audio_seen;
  audio_commits = last.carried;
  last_audio_commit = last.last_taken;
  pushed = last.pushed;
  heard = was_heard published last.pushed hub.handed app last.heard only;
  app_begin = last.taken_begin;
  app_commits = last.all_taken;
}

module _ (laws : RunLaws) (best : BestLaw) (config : ConfigValue) (now : ℤ) (most : ℕ) (hub0 hub1 hub2 : HubView) (app : AppView) (audio : AudioView) (end : NetEnd) (clock : ℤ)
    (p0 p1 p2 p3 : PortSeen)
    (events : List EventValue) (published : List State) (sends posts : List SendingValue) (bound : Bool)
    (hub0_is : hub0 ≡ new_hub config now most) (net : HasRun bound hub0 hub1 p1 p2 end)
    (bind_gates : bound ≡ true → p1.gates ≡ locals_of config) (bind_works : bound ≡ true → p1.faults ≡ p0.faults) (bind_fails : bound ≡ false → Rose p0.faults p1.faults) (bind_contents : p1.told ≡ p0.told)
    (hub2_is : hub2 ≡ record hub1 { handed = hub1.handed ++ app ∷ [] }) (clock_is : clock ≡ end.clock) (opened : IsMoment now)
    (posts_are : posts ≡ sends) (post_gates : p3.gates ≡ p2.gates) where
  opening : IsPaced None (pos 0) now
  opening = record { range = opened; lateness = tt; told = tt }

  pub node_run : (failed full : Bool) → HasEnded hub2 audio clock events published sends full → HasPosted posts end.failed failed p2.told p3.told
      → (failed ≡ false → p3.faults ≡ p2.faults) → (end.failed ≡ false → failed ≡ true → Rose p2.faults p3.faults) → (end.failed ≡ true → p3.faults ≡ p2.faults)
      → IsNodeRun config now most failed full p0 p3 audio app events published
  node_run failed full last posted works fails unbound = record {
    recorded = closed.recorded;
    fits =
        fits_journal hub2 audio app clock events published sends full last
        (only_handed bound hub0 hub1 hub2 app p1 p2 end config now most hub0_is net hub2_is);
    works = closed.works;
    fails = closed.fails;
  }
    where
      closed : HasClosed config most None failed full p0 p3 (recorded_of config now events published)
      closed =
          network_closes laws best config now most None hub0 hub1 hub2 app audio end clock p0 p1 p2 p3 events published sends posts bound
          hub0_is net bind_gates bind_works bind_fails bind_contents hub2_is clock_is opening posts_are post_gates
          failed full (recorded_of config now events published) last posted works fails unbound

-- what is recorded of a run is so whatever else is told of it, and however late it opened
pub recorded_late : (config : ConfigValue) (now : ℤ) (most : ℕ) (late : Option ℤ) (failed full : Bool) (port port_then : Option PortContents) (gates : List Endpoint)
    (events : List EventValue) (published : List State) (report : ReportValue)
    → IsPaced late (pos 0) now → IsRecorded config most None failed full port port_then gates (recorded_of config now events published)
    → IsRecorded config most late failed full port port_then gates (record report { config = config; now = now; events = events; published = published })
recorded_late config now most late failed full port port_then gates events published report opening recorded = record {
  config = recorded.config;
  opening = opening;
  journal = recorded.journal;
  published = recorded.published;
  sent = recorded.sent;
  timelines = recorded.timelines;
  clients = recorded.clients;
}
