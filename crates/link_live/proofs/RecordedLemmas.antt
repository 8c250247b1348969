-- What is recorded and sent of a run: its loop's journal with what the last turn took.
use Rattle.std.proofs.Common.{◌≡◌, ℕ, ℤ, pos, length-append, ◌<◌, ◌≤◌, ◌+◌, ◌||◌, Bool, true, false, List, [], ◌∷◌, ◌++◌, length, Option, refl, sym, ap, subst, ◌∙◌, append-nil, true≢false, arith}
use Rattle.std.specs.List.{AllByRecursion}
use Rattle.client_state.specs.declared.state.State.{State}
use Rattle.lk_base.specs.Ranges.{IsMoment}
use Rattle.lk_base.specs.declared.endpoint.Endpoint.{Endpoint}
use Rattle.lk_outside.specs.Pace.{IsPaced}
use Rattle.lk_outside.specs.Arrivals.{ArrivalValue}
use Rattle.lk_outside.specs.Port.{PortContents}
use Rattle.link_node.specs.Config.{ConfigValue}
use Rattle.link_node.specs.Event.{EventValue, End, SendingValue, moment_of}
use Rattle.link_node.specs.Brought.{IsToldIn}
use Rattle.link_node.specs.Machine.{Machine, timeline_in}
use Rattle.link_node.specs.Opening.{opened}
use Rattle.link_node.specs.Runs.{machine_after, published_of, replayed, sent_by, sent_of}
use Rattle.link_node.specs.Staying.{ShowsBest}
use Rattle.link_node.specs.Step.{sends_of}
use Rattle.session_choice.specs.Best.{IsBest}
use Rattle.link_shared.specs.Audio.{AudioView}
use Rattle.link_shared.specs.Ending.{app_events, HasEnded}
use Rattle.link_shared.specs.Hub.{HubView, new_hub, opening_of, read_events}
use Rattle.link_shared.specs.Passes.{AppView}
use Rattle.link_live.specs.Headline.{IsJournal, IsRecorded, WasSent}
use Rattle.link_live.specs.Journal.{AreInOrder, AreAt, IsHeard, datagram_events_in, ticks_in, has_ended}
use Rattle.link_live.specs.Network.{HasGrown, IsNetworkRun, locals_of, posts_of}
use Rattle.link_live.specs.Report.{ReportValue}
use Rattle.link_live.specs.Running.{HasPosted, RunLaws}
use Rattle.link_live.proofs.DatagramLemmas.{grows_more, in_first}
use Rattle.link_live.proofs.EndLemmas.{all_taken, last_at, last_commits, last_datagrams, last_ends, last_events, last_follow, not_ended}
use Rattle.link_live.proofs.GrownLemmas.{both_tell, grown-append, sent_turn, some_sent_turn}
use Rattle.link_live.proofs.HeardLemmas.{heard_on}
use Rattle.link_live.proofs.JournalLemmas.{all_first, datagrams-first, ticks_in-append, has_ended-append, in_order-append, in_order-first}
use Rattle.link_live.proofs.RunningLemmas.{none_taken}

-- each timeline that is sent is the best one, and so is the one that clients are shown
pub record BestLaw : Type 0 where
  pub told : (m : Machine) (e : EventValue) → AllByRecursion (IsToldIn m e) (sends_of m e)
  pub best : (m : Machine) → IsBest (m.sessions.current.first ∷ m.sessions.current.later) (timeline_in m)
  pub shows : (config : ConfigValue) (now : ℤ) (es : List EventValue) → IsMoment now → ShowsBest (replayed config now es)

-- whatever applications have handed in their passes
module _ (laws : RunLaws) (config : ConfigValue) (now : ℤ) (most : ℕ) (hub : HubView) (handed : List AppView) (pass : AudioView) (clock : ℤ) (told told_then : Option PortContents) (events : List EventValue) (published : List State) (sends : List SendingValue)
    (failed0 full0 full : Bool)
    (net : IsNetworkRun (new_hub config now most) hub told told_then clock failed0 full0)
    (last : HasEnded (record hub { handed = handed }) pass clock events published sends full) where
  same_opening : opening_of hub ≡ opened config now
  same_opening = λ i. opened (net.same_config i) (net.same_opening i)

  abbrev held : ℕ
  held = (machine_after (opened config now) hub.journal).audio

  abbrev firsts : List EventValue
  firsts = read_events clock held last.last ++ app_events clock last.rest

  abbrev added : List EventValue
  added = last_events clock held last.last last.rest

  abbrev taken : List EventValue
  taken = last.offered.taken

  abbrev refused : List EventValue
  refused = last.offered.refused

  split_is : added ≡ taken ++ refused
  split_is = ap (λ (m : Machine). last_events clock (machine_after m hub.journal).audio last.last last.rest) (sym same_opening) ∙ last.offered.split

  events_are : events ≡ hub.journal ++ taken
  events_are = last.offered.journal

  -- where the loop's journal was full nothing is taken
  none_then : full0 ≡ true → taken ≡ []
  none_then e = none_taken (opening_of hub) hub.most (last_events clock (machine_after (opening_of hub) hub.journal).audio last.last last.rest) hub.journal events sends full last.offered
      (net.no_room e ∙ sym net.same_most)

  -- and so it wasn't full where the last turn found room
  room_before : full ≡ false → (b : Bool) → full0 ≡ b → full0 ≡ false
  room_before room false e = e
  room_before room true e =
      let none : added ≡ [] = split_is ∙ (λ i. none_then e i ++ last.offered.all room i) in
      absurd (omega (arith, ap length none, length-append firsts (End clock ∷ [])))

  full_then : full0 ≡ true → full ≡ true
  full_then e = is_true full (λ room. true≢false (sym e ∙ room_before room full0 refl))
    where
      is_true : (b : Bool) → (b ≡ false → ⊥) → b ≡ true
      is_true true f = refl
      is_true false f = absurd (f refl)

  in_order : AreInOrder (opened config now) [] events
  in_order = subst (λ (l : List EventValue). AreInOrder (opened config now) [] l) (sym events_are)
      (in_order-append (opened config now) [] hub.journal taken net.order
      (in_order-first (opened config now) hub.journal taken refused
      (subst (λ (l : List EventValue). AreInOrder (opened config now) hub.journal l) split_is
      (last_follow laws (opened config now) clock hub.journal last.last last.rest net.reached net.goes_on))))

  run_journal : IsJournal (opened config now) most full events
  run_journal = record {
    in_order = in_order;
    ticked = λ room. more_ticks (ticks_in hub.journal) (ticks_in taken) (ticks_in events) (net.ticked (room_before room full0 refl)) (ap ticks_in events_are ∙ ticks_in-append hub.journal taken);
    ended = λ room.
        ap has_ended (events_are ∙ ap (λ l. hub.journal ++ l) (all_taken added taken refused split_is (last.offered.all room)))
        ∙ last_ends clock held last.last last.rest hub.journal;
    cut = λ e. (
      (last.offered.no_room e).0 ∙ net.same_most,
      ap has_ended events_are ∙ has_ended-append hub.journal taken ∙ ap (λ b. b || has_ended taken) net.goes_on
          ∙ not_ended clock firsts taken refused (last_commits clock held last.last last.rest).goes_on split_is (last.offered.no_room e).1,
    );
    fits = subst (λ (n : ℕ). length events ≤ n) net.same_most last.offered.fits;
  }
    where
      more_ticks : (a b c : ℕ) → 0 < a → c ≡ a + b → 0 < c
      more_ticks a b c ticked is = omega (arith, ticked, is)

  no_datagrams : datagram_events_in taken ≡ []
  no_datagrams = datagrams-first taken refused (ap datagram_events_in (sym split_is) ∙ last_datagrams clock held last.last last.rest)

  run_heard : IsHeard full config now net.arrivals events
  run_heard = by_loop full0 refl
    where
      by_loop : (b : Bool) → full0 ≡ b → IsHeard full config now net.arrivals events
      by_loop false e = subst (λ (l : List EventValue). IsHeard full config now net.arrivals l) (sym events_are)
          (heard_on full (opened config now) now [] net.arrivals hub.journal taken (subst (λ (b : Bool). IsHeard b config now net.arrivals hub.journal) e net.heard)
          (subst (λ (n : ℤ). AreAt n taken) net.clock_is
          (all_first (λ x. moment_of x ≡ clock) taken refused (subst (λ (l : List EventValue). AreAt clock l) split_is (last_at clock held last.last last.rest))))
          no_datagrams)
      by_loop true e = subst (λ (l : List EventValue). IsHeard full config now net.arrivals l) (sym (events_are ∙ ap (λ l. hub.journal ++ l) (none_then e) ∙ append-nil hub.journal))
          (subst (λ (b : Bool). IsHeard b config now net.arrivals hub.journal) (e ∙ sym (full_then e)) net.heard)

  sends_are : sends ≡ sent_by (machine_after (opened config now) hub.journal) taken
  sends_are = last.offered.sends ∙ ap (λ (m : Machine). sent_by (machine_after m hub.journal) taken) same_opening

  sent_grows : sent_of config now events ≡ sent_of config now hub.journal ++ sends
  sent_grows = ap (λ l. sent_by (opened config now) l) events_are ∙ laws.sent (opened config now) hub.journal taken
      ∙ ap (λ l. sent_by (opened config now) hub.journal ++ l) (sym sends_are)

  run_sent : (failed : Bool) (port : Option PortContents) (gates : List Endpoint) → HasPosted sends failed0 failed told_then port → (failed ≡ false → gates ≡ locals_of config)
      → WasSent config now failed full events told port gates
  run_sent failed port gates posted bound = record {
    arrivals = net.arrivals;
    heard = run_heard;
    posts = net.posts ++ posted.posts;
    posted =
        both_tell (HasGrown net.arrivals net.posts) (HasGrown [] posted.posts) (HasGrown net.arrivals (net.posts ++ posted.posts)) told told_then port
        (λ a b c first second.
        subst (λ (l : List ArrivalValue). HasGrown l (net.posts ++ posted.posts) a c) (append-nil net.arrivals)
        (grown-append net.arrivals [] net.posts posted.posts a b c first second))
        net.grown posted.grown;
    all = sent_turn net.posts (sent_of config now hub.journal) sends (sent_of config now events) failed0 failed told_then port sent_grows posted net.sent;
    first = some_sent_turn net.posts net.unsent (sent_of config now hub.journal) sends (sent_of config now events) failed0 failed told_then port sent_grows posted net.sent net.some_sent;
    before = λ before after gate from bytes at is.
        let there = in_first gate from bytes at hub.journal taken before after (sym events_are ∙ is) no_datagrams in
        grows_more (posts_of (sent_of config now before)) net.posts posted.posts (net.before_each before there.0 gate from bytes at there.1);
    bound = bound;
  }

  pub is_recorded : (best : BestLaw) (late : Option ℤ) (failed : Bool) (port : Option PortContents) (gates : List Endpoint) (report : ReportValue)
      → IsPaced late (pos 0) now → HasPosted sends failed0 failed told_then port → (failed ≡ false → gates ≡ locals_of config)
      → IsRecorded config most late failed full told port gates (record report { config = config; now = now; events = events; published = published })
  is_recorded best late failed port gates report opening posted bound = record {
    config = refl;
    opening = opening;
    journal = run_journal;
    published = last.published_are ∙ (λ i. published_of (net.same_config i) (net.same_opening i) events);
    sent = run_sent failed port gates posted bound;
    timelines = λ before after e split. (best.told (machine_after (opened config now) before) e, best.best (machine_after (opened config now) before));
    clients = λ before after split. best.shows config now before opening.range;
  }
