-- The network's part of a run, whatever its applications are: what its loop owes, the gates that are bound, what is recorded at the end.
use Rattle.std.proofs.Common.{◌≡◌, ℕ, ℤ, pos, ◌<◌, ◌⊎◌, ⊎_elim, Bool, true, false, List, [], ◌∷◌, ◌++◌, length, Option, refl, sym, ap, subst, ◌∙◌, true≢false}
use Rattle.std.specs.List.{AllByRecursion}
use Rattle.std.proofs.lemmas.List.{length-map}
use Rattle.lk_base.specs.declared.endpoint.Endpoint.{Endpoint}
use Rattle.lk_outside.specs.Faults.{Rose}
use Rattle.lk_outside.specs.Pace.{IsPaced}
use Rattle.lk_outside.specs.Port.{PortContents, PortSeen}
use Rattle.client_state.specs.declared.state.State.{State}
use Rattle.link_node.specs.Config.{ConfigValue}
use Rattle.link_node.specs.Event.{EventValue, SendingValue}
use Rattle.link_node.specs.Runs.{sent_by, sent_of, AreFitting}
use Rattle.link_shared.specs.Audio.{AudioView}
use Rattle.link_shared.specs.Ending.{HasEnded}
use Rattle.link_shared.specs.Hub.{HubView, machine_of, new_hub, opening_of}
use Rattle.link_shared.specs.Passes.{AppView}
use Rattle.link_live.specs.Headline.{IsRecorded}
use Rattle.link_live.specs.Loops.{CanRun, HasRun}
use Rattle.link_live.specs.Network.{IsNetworkRun, locals_of}
use Rattle.link_live.specs.Report.{ReportValue}
use Rattle.link_live.specs.Running.{HasPosted, RunLaws}
use Rattle.link_live.specs.declared.network.NetEnd.{NetEnd}
use Rattle.link_live.proofs.JournalLemmas.{all_later}
use Rattle.link_live.proofs.LoopLemmas.{has_risen}
use Rattle.link_live.proofs.RecordedLemmas.{BestLaw, is_recorded}

-- ---- what the loop owes

pub can_run : (bound : Bool) (hub : HubView) (port : PortSeen) (config given : ConfigValue) (now : ℤ) (most : ℕ)
    → hub ≡ new_hub config now most → config ≡ given → (bound ≡ true → port.gates ≡ locals_of given) → CanRun bound hub port
can_run bound hub port config given now most is same gates_are = record {
  empty = ap (λ (h : HubView). h.journal) is;
  bound_to = λ yes. gates_are yes ∙ ap locals_of (sym same ∙ sym (ap (λ (h : HubView). h.config) is));
}

-- ---- what the last turn sends goes out on gates that are bound

pub last_on_gates : (laws : RunLaws) (hub : HubView) (pass : AudioView) (clock : ℤ) (events : List EventValue) (published : List State) (sends list : List SendingValue) (full : Bool) (bound : List Endpoint)
    → ((config : ConfigValue) (now : ℤ) (es : List EventValue) → AreFitting (length config.gates) 0 0 es → AllByRecursion (λ (s : SendingValue). s.gate.0 < length config.gates) (sent_of config now es))
    → HasEnded hub pass clock events published sends full → bound ≡ locals_of hub.config → list ≡ sends
    → AllByRecursion (λ (s : SendingValue). s.gate.0 < length bound) list
last_on_gates laws hub pass clock events published sends list full bound law last are is =
    subst (λ (l : List SendingValue). AllByRecursion (λ (s : SendingValue). s.gate.0 < length bound) l) (sym is)
    (subst (λ (n : ℕ). AllByRecursion (λ (s : SendingValue). s.gate.0 < n) sends) (sym (ap length are ∙ length-map hub.config.gates (λ gate. gate.local)))
    (subst (λ (l : List SendingValue). AllByRecursion (λ (s : SendingValue). s.gate.0 < length hub.config.gates) l) (sym last.offered.sends)
    (all_later (λ (s : SendingValue). s.gate.0 < length hub.config.gates) (sent_by (opening_of hub) hub.journal) (sent_by (machine_of hub) last.offered.taken)
    (subst (λ (l : List SendingValue). AllByRecursion (λ (s : SendingValue). s.gate.0 < length hub.config.gates) l) both
    (law hub.config hub.opened_at events last.fits)))))
  where
    both : sent_of hub.config hub.opened_at events ≡ sent_by (opening_of hub) hub.journal ++ sent_by (machine_of hub) last.offered.taken
    both = ap (λ l. sent_by (opening_of hub) l) last.offered.journal ∙ laws.sent (opening_of hub) hub.journal last.offered.taken

-- the gates that are bound, where the port has not failed in the network's loop
pub still_bound : (bound : Bool) (hub0 hub1 hub2 : HubView) (app : AppView) (port port_then : PortSeen) (end : NetEnd) (config given : ConfigValue) (now : ℤ) (most : ℕ)
    → hub0 ≡ new_hub config now most → config ≡ given → HasRun bound hub0 hub1 port port_then end
    → (bound ≡ true → port.gates ≡ locals_of given) → hub2 ≡ record hub1 { handed = hub1.handed ++ app ∷ [] } → end.failed ≡ false → port_then.gates ≡ locals_of hub2.config
still_bound bound hub0 hub1 hub2 app port port_then end config given now most is same net gates_are hub2_is works =
    net.stay ∙ gates_are (net.cause.works works).0
    ∙ ap locals_of (sym same ∙ sym (ap (λ (h : HubView). h.config) is) ∙ sym net.run.same_config ∙ sym (ap (λ (h : HubView). h.config) hub2_is))

-- ---- what the loop leaves

-- the events of a run are ones that its node can take
pub all_fit : (bound : Bool) (hub0 hub1 hub2 : HubView) (app : AppView) (port port_then : PortSeen) (end : NetEnd) (config : ConfigValue) (now : ℤ) (most : ℕ) (events : List EventValue)
    → hub0 ≡ new_hub config now most → HasRun bound hub0 hub1 port port_then end
    → hub2 ≡ record hub1 { handed = hub1.handed ++ app ∷ [] } → AreFitting (length hub2.config.gates) 0 0 events → AreFitting (length config.gates) 0 0 events
all_fit bound hub0 hub1 hub2 app port port_then end config now most events is net hub2_is fit =
    subst (λ (c : ConfigValue). AreFitting (length c.gates) 0 0 events)
    (ap (λ (h : HubView). h.config) hub2_is ∙ net.run.same_config ∙ ap (λ (h : HubView). h.config) is) fit

-- the application's pass is the only one that was handed in
pub only_handed : (bound : Bool) (hub0 hub1 hub2 : HubView) (app : AppView) (port port_then : PortSeen) (end : NetEnd) (config : ConfigValue) (now : ℤ) (most : ℕ)
    → hub0 ≡ new_hub config now most → HasRun bound hub0 hub1 port port_then end
    → hub2 ≡ record hub1 { handed = hub1.handed ++ app ∷ [] } → hub2.handed ≡ app ∷ []
only_handed bound hub0 hub1 hub2 app port port_then end config now most is net hub2_is =
    ap (λ (h : HubView). h.handed) hub2_is ∙ ap (λ (l : List AppView). l ++ app ∷ []) (net.run.same_handed ∙ ap (λ (h : HubView). h.handed) is)

-- ---- how it ends

-- what is recorded of a run, and whether a call of its port failed
pub record HasClosed (config : ConfigValue) (most : ℕ) (late : Option ℤ) (failed full : Bool) (port port_then : PortSeen) (report : ReportValue) : Type 0 where
  pub works : failed ≡ false → port_then.faults ≡ port.faults
  pub fails : failed ≡ true → Rose port.faults port_then.faults
  pub recorded : IsRecorded config most late failed full port.told port_then.told port_then.gates report

module _ (laws : RunLaws) (best : BestLaw) (config : ConfigValue) (now : ℤ) (most : ℕ) (late : Option ℤ) (hub0 hub1 hub2 : HubView) (app : AppView) (pass : AudioView) (end : NetEnd) (clock : ℤ)
    (p0 p1 p2 p3 : PortSeen)
    (events : List EventValue) (published : List State) (sends posts : List SendingValue) (bound : Bool)
    (hub0_is : hub0 ≡ new_hub config now most) (net : HasRun bound hub0 hub1 p1 p2 end)
    (bind_gates : bound ≡ true → p1.gates ≡ locals_of config) (bind_works : bound ≡ true → p1.faults ≡ p0.faults) (bind_fails : bound ≡ false → Rose p0.faults p1.faults) (bind_contents : p1.told ≡ p0.told)
    (hub2_is : hub2 ≡ record hub1 { handed = hub1.handed ++ app ∷ [] }) (clock_is : clock ≡ end.clock) (opening : IsPaced late (pos 0) now)
    (posts_are : posts ≡ sends) (post_gates : p3.gates ≡ p2.gates) where
  run : IsNetworkRun (new_hub config now most) hub1 p1.told p2.told end.clock end.failed end.full
  run = subst (λ (h : HubView). IsNetworkRun h hub1 p1.told p2.told end.clock end.failed end.full) hub0_is net.run

  net_is : IsNetworkRun (new_hub config now most) hub1 p0.told p2.told end.clock end.failed end.full
  net_is = subst (λ (o : Option PortContents). IsNetworkRun (new_hub config now most) hub1 o p2.told end.clock end.failed end.full) bind_contents run

  -- the port's count rose
  rose : (failed : Bool) → (end.failed ≡ false → failed ≡ true → Rose p2.faults p3.faults) → (end.failed ≡ true → p3.faults ≡ p2.faults) → failed ≡ true → Rose p0.faults p3.faults
  rose failed post_fails post_unbound fails = has_risen p0.faults p2.faults p3.faults end.failed failed
      (λ works. (net.cause.works works).1 ∙ bind_works (net.cause.works works).0)
      (λ failed_then. by_bound bound refl (net.cause.fails failed_then))
      post_fails post_unbound fails
    where
      by_bound : (b : Bool) → bound ≡ b → (bound ≡ false) ⊎ Rose p1.faults p2.faults → Rose p0.faults p2.faults
      by_bound false e why = subst (λ (n : ℕ). Rose p0.faults n) (sym (net.cause.unbound e).1) (bind_fails e)
      by_bound true e why =
          ⊎_elim (λ (n : bound ≡ false). absurd (true≢false (sym e ∙ n))) (λ (r : Rose p1.faults p2.faults). subst (λ (n : ℕ). Rose n p2.faults) (bind_works e) r) why

  -- and stayed
  stays : (failed : Bool) → HasPosted posts end.failed failed p2.told p3.told → (failed ≡ false → p3.faults ≡ p2.faults) → failed ≡ false → p3.faults ≡ p0.faults
  stays failed posted post_works works =
      let before = (posted.all works).0 in post_works works ∙ (net.cause.works before).1 ∙ bind_works (net.cause.works before).0

  pub network_closes : (failed full : Bool) (report : ReportValue) → HasEnded hub2 pass clock events published sends full → HasPosted posts end.failed failed p2.told p3.told
      → (failed ≡ false → p3.faults ≡ p2.faults) → (end.failed ≡ false → failed ≡ true → Rose p2.faults p3.faults) → (end.failed ≡ true → p3.faults ≡ p2.faults)
      → HasClosed config most late failed full p0 p3 (record report { config = config; now = now; events = events; published = published })
  network_closes failed full report last posted works fails unbound = record {
    works = λ e. stays failed posted works e;
    fails = λ e. rose failed fails unbound e;
    recorded =
        is_recorded laws config now most hub1 (hub1.handed ++ app ∷ []) pass end.clock p0.told p2.told events published sends end.failed end.full full net_is last_is best late failed p3.told p3.gates report opening
        (subst (λ (l : List SendingValue). HasPosted l end.failed failed p2.told p3.told) posts_are posted)
        (λ e. let before = (posted.all e).0 in post_gates ∙ net.stay ∙ bind_gates (net.cause.works before).0);
  }
    where
      last_is : HasEnded (record hub1 { handed = hub1.handed ++ app ∷ [] }) pass end.clock events published sends full
      last_is = subst (λ (h : HubView). HasEnded h pass end.clock events published sends full) hub2_is
          (subst (λ (n : ℤ). HasEnded hub2 pass n events published sends full) clock_is last)
