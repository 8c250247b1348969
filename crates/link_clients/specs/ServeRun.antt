-- What a run of a session server promises, however it ends: what is recorded, published and sent, what its clients were answered, and what
-- was captured and committed for them.
use Rattle.std.specs.Prelude.{◌≡◌, ◌⊎◌, ℕ, ℤ, Bool, true, false, if◌then◌else◌, List, [], map, Option, Some, None}
use Rattle.audio_handoff.specs.Cell.{Grows}
use Rattle.lk_base.specs.declared.endpoint.Endpoint.{Endpoint}
use Rattle.lk_outside.specs.Faults.{Rose}
use Rattle.lk_outside.specs.Port.{PortSeen}
use Rattle.lk_talks.specs.Talks.{TalksSeen}
use Rattle.client_state.specs.declared.commit.Commit.{Commit}
use Rattle.client_state.specs.declared.state.State.{State}
use Rattle.link_node.specs.Config.{ConfigValue}
use Rattle.link_node.specs.Event.{EventValue}
use Rattle.link_shared.specs.Ending.{WerePublished}
use Rattle.link_shared.specs.Journal.{AreCarried, app_commits_in}
use Rattle.link_shared.specs.Passes.{AppView}
use Rattle.link_live.specs.Headline.{IsRecorded}
use Rattle.link_live.specs.NodeRun.{new_app, recorded_of}
use Rattle.link_control.specs.Log.{AreCounted}
use Rattle.link_clients.specs.Deeds.{Deed, commits_in, pairs_in}
use Rattle.link_clients.specs.Hosting.{HasHosted}
use Rattle.link_clients.specs.declared.terms.HostEnd.{HostEnd}
use Rattle.link_clients.specs.declared.terms.HostEnd.TheVariants as host
use Rattle.link_clients.specs.declared.terms.ServeEnd.{ServeEnd}
use Rattle.link_clients.specs.declared.terms.ServeEnd.TheVariants as end
use Rattle.link_clients.specs.declared.terms.Terms.{Terms}

-- how a run is set up: the node's config, when it opens, how many events the journal takes, where clients are listened for, and what ends
-- it
pub record ServeSetup : Type 0 where
  pub config : ConfigValue
  pub opened_at : ℤ
  pub events : ℕ
  pub at : Endpoint
  pub terms : Terms

-- Rule: A run of a session server ends by the first cause that holds: no memory for a capture, the port, the talks, a full journal.
abbrev pub first_of : HostEnd → Bool → Bool → ServeEnd
first_of host.Memory failed full = end.Memory
first_of host.Deaf failed full = if failed then end.Port else end.Talks
first_of host.Failed failed full = if failed then end.Port else end.Talks
first_of host.Full failed full = if failed then end.Port else end.Events
first_of host.Closed failed full = if failed then end.Port else (if full then end.Events else end.Well)
first_of host.Hours failed full = if failed then end.Port else (if full then end.Events else end.Well)
first_of host.Asked failed full = if failed then end.Port else (if full then end.Events else end.Well)

-- Rule: Clients are listened for at the endpoint given; where that can't be, nothing passes and nothing is done.
abbrev pub IsHosted : Endpoint → Terms → Option ℤ → TalksSeen → TalksSeen → AppView → List Deed → HostEnd → Type 0
IsHosted at terms late talks talks_then pass done ended =
    HasHosted terms late (record talks { opened = Some at }) talks_then new_app pass done ended
    ⊎ ((ended ≡ host.Deaf) × Rose talks.faults talks_then.faults × (talks_then ≡ record talks { faults = talks_then.faults })
    × (done ≡ []) × (pass ≡ new_app))

-- the commits that were made for clients, in order
abbrev pub made_in : List Deed → List Commit
made_in done = map (λ commit. commit.1) (commits_in None done)

-- Rule: The clients' commits count from 1 over all of them and stand in the journal each once and in order, all unless an event found no
-- room; each state by which a client was answered was published.
pub record IsServed (setup : ServeSetup) (late : Option ℤ) (talks talks_then : TalksSeen) (full : Bool) (events : List EventValue) (published : List State) (ended : HostEnd) : Type 0 where
  pub pass : AppView
  pub done : List Deed
  pub hosted : IsHosted setup.at setup.terms late talks talks_then pass done ended
  pub captured : WerePublished published (pairs_in done)
  pub counted : AreCounted 0 (commits_in None done)
  pub begin : Grows (app_commits_in events) (made_in done)
  pub all : full ≡ false → app_commits_in events ≡ made_in done

-- Rule: A run of a session server is recorded, published and sent as a live run is, however it ends.
-- What the run met, by which its end goes, with the causes; and what is promised of it then: it sends and publishes what replay gives for
-- its journal, no audio commit stands there, and its clients were served.
pub record EndsServeRun (setup : ServeSetup) (late : Option ℤ) (port port_then : PortSeen) (talks talks_then : TalksSeen) (events : List EventValue) (published : List State) (ended : ServeEnd) : Type 0 where
  pub hosted : HostEnd
  pub failed : Bool
  pub full : Bool
  pub ended_is : ended ≡ first_of hosted failed full
  pub port_works : failed ≡ false → port_then.faults ≡ port.faults
  pub port_fails : failed ≡ true → Rose port.faults port_then.faults
  pub recorded : IsRecorded setup.config setup.events None failed full port.told port_then.told port_then.gates
      (recorded_of setup.config setup.opened_at events published)
  pub served : IsServed setup late talks talks_then full events published hosted
  pub silent : AreCarried [] events
