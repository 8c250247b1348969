-- One turn of the network's loop: what held of the run before it holds of the run with it.
use Rattle.std.proofs.Common.{◌≡◌, ℕ, ℤ, ◌+◌, ◌<◌, ◌≤◌, ◌≤ℤ◌, ◌<ℤ◌, ◌⊎◌, ◌||◌, Bool, true, false, if◌then◌else◌, List, [], ◌∷◌, ◌++◌, length, Option, refl, sym, ap, subst, ◌∙◌, inl, inr, ⊎_elim, append-nil, append_assoc, length-append, to_z, of_z, w64, true≢false, arith}
use Rattle.std.specs.Prelude.{IfSome}
use Rattle.std.proofs.lemmas.Int.{ints, to_z-of_z}
use Rattle.lk_base.specs.Ranges.{IsMoment}
use Rattle.lk_base.specs.declared.endpoint.Endpoint.{Endpoint}
use Rattle.lk_base.specs.declared.endpoint.Gate.{Gate}
use Rattle.lk_outside.specs.Arrivals.{ArrivalValue, PostValue}
use Rattle.lk_outside.specs.Port.{PortContents}
use Rattle.link_node.specs.Config.{ConfigValue, IsConfig}
use Rattle.link_node.specs.Due.{due_of}
use Rattle.link_node.specs.Event.{EventValue, Rx, SendingValue}
use Rattle.link_node.specs.Machine.{Machine}
use Rattle.link_node.specs.Opening.{opened}
use Rattle.link_node.specs.Runs.{machine_after, sent_by, sent_of, AreFitting}
use Rattle.link_node.specs.WellFormed.{IsMachine}
use Rattle.link_shared.specs.Hub.{HubView, HasTurned, opening_of, machine_of, got_events, item_events, read_events}
use Rattle.link_shared.specs.Journal.{IsOffered, app_commits_in}
use Rattle.link_shared.specs.declared.got.Got.{Got}
use Rattle.link_shared.specs.declared.got.Got.TheVariants as got
use Rattle.link_live.specs.Journal.{AreInOrder, AreAt, AreHeard, IsHeard, clock_after, brought_by, datagram_events_in, owes_tick, ticks_in}
use Rattle.link_live.specs.Network.{ArePostedBefore, posts_of}
use Rattle.link_live.specs.Running.{RunLaws, IsRunning, HasAsked, HasPosted, IsTimely}
use Rattle.link_live.specs.declared.network.Line.{Line}
use Rattle.link_live.proofs.AskLemmas.{moment_fits}
use Rattle.link_live.proofs.DatagramLemmas.{AreSilent, cut_datagram, grows_more, nothing_sent_by, silent_before, some_datagram}
use Rattle.link_live.proofs.CountLemmas.{few_commits, all_taken, offered_ticks, taken_datagrams}
use Rattle.link_live.proofs.GoneLemmas.{IsUpTo, HasGone, IsReadyFor, turn_gone}
use Rattle.link_live.proofs.GrownLemmas.{grown_turn, sent_turn, some_sent_turn, still_none_left, still_none_given}
use Rattle.link_live.proofs.HeardLemmas.{clock_grows, clock-append, heard_turn}
use Rattle.link_live.proofs.JournalLemmas.{commits_in-append, in_order-append, ticks_in-append}
use Rattle.link_live.proofs.TurnsLemmas.{turned_more, full_more, quits_more}

-- ---- the node of the run

opened_fits : (config : ConfigValue) (at : ℤ) (es : List EventValue) → AreFitting (length config.gates) 0 0 es
    → AreFitting (length (opened config at).config.gates) (opened config at).app (opened config at).audio es
unfolding opened
opened_fits config at es fits = fits

machines : (laws : RunLaws) (config : ConfigValue) (at : ℤ) → IsConfig config → IsMoment at → (es : List EventValue) → AreFitting (length config.gates) 0 0 es
    → IsMachine (machine_after (opened config at) es)
machines laws config at is_config is_moment es fits = laws.run (opened config at) es (laws.opening config at is_config is_moment) (opened_fits config at es fits)

-- ---- the parts of a turn

≤ℤ_then : (a b c : ℤ) → a ≤ℤ b → b ≤ℤ c → a ≤ℤ c
≤ℤ_then a b c first second = omega (arith, ints)

-- what holds at a moment holds at a later one
pub up_to_later : (opening : Machine) (clock later : ℤ) (es : List EventValue) → clock ≤ℤ later → IsUpTo opening clock es → IsUpTo opening later es
up_to_later opening clock later es le up = record {
  reached = ≤ℤ_then (machine_after opening es).moment clock later up.reached le;
  owed = λ owes. ≤ℤ_then (due_of (machine_after opening es)) clock later (up.owed owes) le;
  goes_on = up.goes_on;
}

-- what was asked is what the turn can take
pub ready_for : (opening : Machine) (clock later due : ℤ) (es : List EventValue) (brought : Got) → due ≡ due_of (machine_after opening es) → IsUpTo opening clock es
    → IsTimely due clock later brought → IsReadyFor opening later es brought
ready_for opening clock later due es got.Nothing is up timely = tt
ready_for opening clock later due es (got.Datagram gate from bytes) is up timely = by_owed (owes_tick true opening es) refl
  where
    past_due : (a b : ℤ) → a <ℤ b → b ≤ℤ a → ⊥
    past_due a b less le = omega (arith, ints)

    by_owed : (owes : Bool) → owes_tick true opening es ≡ owes → owes_tick true opening es ≡ false
    by_owed false test = test
    by_owed true test = absurd (past_due clock due timely (subst (λ (n : ℤ). n ≤ℤ clock) (sym is) (up.owed test)))
ready_for opening clock later due es got.Tick is up timely = subst (λ (n : ℤ). n ≤ℤ later) is timely
ready_for opening clock later due es got.End is up timely = timely

none_left : {A : Type 0} (xs ys zs : List A) → zs ≡ xs ++ ys → length zs ≤ length xs → ys ≡ []
none_left xs [] zs e le = refl
none_left xs (y ∷ ys) zs e le = absurd (omega (arith, length-append xs (y ∷ ys), ap length e))

-- where an event found no room before, none is taken
pub none_taken : (opening : Machine) (most : ℕ) (all before after : List EventValue) (sends : List SendingValue) (full : Bool) (offered : IsOffered opening most all before after [] sends full)
    → length before ≡ most → offered.taken ≡ []
none_taken opening most all before after sends full offered no_room =
    none_left before offered.taken after offered.journal (subst (λ (n : ℕ). length after ≤ n) (sym no_room) offered.fits)

-- the hub's own opening is that of the run
pub offered_as : (first hub : HubView) (all before after : List EventValue) (sends : List SendingValue) (full : Bool)
    → hub.config ≡ first.config → hub.opened_at ≡ first.opened_at → hub.most ≡ first.most
    → IsOffered (opening_of hub) hub.most all before after [] sends full → IsOffered (opening_of first) first.most all before after [] sends full
offered_as first hub all before after sends full config at most offered =
    subst (λ (x : ConfigValue × ℤ × ℕ). IsOffered (opened x.0 x.1) x.2 all before after [] sends full) (λ k. (config k, at k, most k)) offered

pub machine_as : (first hub : HubView) (es : List EventValue) → hub.config ≡ first.config → hub.opened_at ≡ first.opened_at
    → machine_after (opening_of hub) es ≡ machine_after (opening_of first) es
machine_as first hub es config at = ap (λ (x : ConfigValue × ℤ). machine_after (opened x.0 x.1) es) (λ k. (config k, at k))

-- ---- a turn of the run, in the words of the run

record HasDone (first hub after : HubView) (clock : ℤ) (brought : Got) (sends : List SendingValue) (quit full : Bool) : Type 0 where
  pub taken : List EventValue
  pub refused : List EventValue
  pub journal : after.journal ≡ hub.journal ++ taken
  pub sends_are : sends ≡ sent_by (machine_after (opening_of first) hub.journal) taken
  pub all : full ≡ false → refused ≡ []
  pub fits : length after.journal ≤ first.most
  pub no_room_before : length hub.journal ≡ first.most → taken ≡ []
  pub no_room : full ≡ true → length after.journal ≡ first.most
  pub gone : HasGone (opening_of first) clock hub.journal taken
  pub commits : length (app_commits_in taken) + (if quit then 1 else 0) ≤ 1
  pub ticks : full ≡ false → ticks_in taken ≡ ticks_in (got_events clock brought)
  pub datagrams : (datagram_events_in taken ≡ datagram_events_in (got_events clock brought)) ⊎ ((full ≡ true) × (datagram_events_in taken ≡ []))
  pub silent : (gate : Gate) (from : Endpoint) (bytes : List ℕ) (at : ℤ) (part rest : List EventValue) → taken ≡ part ++ Rx gate from bytes at ∷ rest → AreSilent part
  pub config : after.config ≡ first.config
  pub opening : after.opened_at ≡ first.opened_at
  pub most : after.most ≡ first.most

has_done : (laws : RunLaws) (first hub after : HubView) (told told_now : Option PortContents) (line : Line) (clock due : ℤ) (brought : Got) (sends : List SendingValue) (quit full : Bool)
    → IsRunning first hub told told_now line false → IsConfig hub.config × IsMoment hub.opened_at → due ≡ due_of (machine_of hub) → line.clock ≤ℤ clock
    → IsTimely due line.clock clock brought → HasTurned hub after clock brought sends quit full → AreFitting (length after.config.gates) 0 0 after.journal
    → HasDone first hub after clock brought sends quit full
has_done laws first hub after told told_now line clock due brought sends quit full run opens due_is le timely turned fits =
    record {
      taken = offered.taken;
      refused = offered.refused;
      journal = offered.journal;
      sends_are = offered.sends;
      all = offered.all;
      fits = offered.fits;
      no_room_before = none_taken (opening_of first) first.most ((item_events clock turned.popped_item ++ read_events clock (machine_after (opening_of first) hub.journal).audio turned.pair) ++ got_events clock brought) hub.journal after.journal sends full offered;
      no_room = λ e. (offered.no_room e).0;
      gone = turn_gone laws (opening_of first) clock (length first.config.gates) hub.journal offered.taken offered.refused turned.popped_item turned.pair brought
          (machines laws first.config first.opened_at is_config is_moment) fitting offered.split
          (up_to_later (opening_of first) line.clock clock hub.journal le up)
          (ready_for (opening_of first) line.clock clock due hub.journal brought (due_is ∙ ap due_of same_machine) up timely);
      commits = few_commits clock (machine_after (opening_of first) hub.journal).audio turned.popped_item turned.pair brought offered.taken offered.refused quit offered.split turned.quit_is;
      ticks = λ e. ap ticks_in (all_taken ((item_events clock turned.popped_item ++ read_events clock (machine_after (opening_of first) hub.journal).audio turned.pair) ++ got_events clock brought) offered.taken offered.refused offered.split (offered.all e)) ∙ offered_ticks clock (machine_after (opening_of first) hub.journal).audio turned.popped_item turned.pair brought;
      datagrams = taken_datagrams clock (machine_after (opening_of first) hub.journal).audio turned.popped_item turned.pair brought offered.taken offered.refused full offered.split offered.all;
      silent = λ gate from bytes at part rest is.
          silent_before laws gate from bytes at clock (machine_after (opening_of first) hub.journal).audio turned.popped_item turned.pair brought part (rest ++ offered.refused)
          (offered.split ∙ ap (λ l. l ++ offered.refused) is ∙ append_assoc part (Rx gate from bytes at ∷ rest) offered.refused);
      config = ap (λ (h : HubView). h.config) turned.others_stay ∙ run.same_config;
      opening = ap (λ (h : HubView). h.opened_at) turned.others_stay ∙ run.same_opening;
      most = ap (λ (h : HubView). h.most) turned.others_stay ∙ run.same_most;
    }
  where
    same_machine : machine_of hub ≡ machine_after (opening_of first) hub.journal
    same_machine = machine_as first hub hub.journal run.same_config run.same_opening

    offered : IsOffered (opening_of first) first.most ((item_events clock turned.popped_item ++ read_events clock (machine_after (opening_of first) hub.journal).audio turned.pair) ++ got_events clock brought) hub.journal after.journal [] sends full
    offered =
        subst (λ (n : ℕ). IsOffered (opening_of first) first.most ((item_events clock turned.popped_item ++ read_events clock n turned.pair) ++ got_events clock brought) hub.journal after.journal [] sends full)
        (ap (λ (m : Machine). m.audio) same_machine)
        (offered_as first hub _ hub.journal after.journal sends full run.same_config run.same_opening run.same_most turned.offered)

    is_config : IsConfig first.config
    is_config = subst (λ (c : ConfigValue). IsConfig c) run.same_config opens.0

    is_moment : IsMoment first.opened_at
    is_moment = subst (λ (n : ℤ). IsMoment n) run.same_opening opens.1

    fitting : AreFitting (length first.config.gates) 0 0 (hub.journal ++ offered.taken)
    fitting =
        subst (λ (l : List EventValue). AreFitting (length first.config.gates) 0 0 l) offered.journal
        (subst (λ (c : ConfigValue). AreFitting (length c.gates) 0 0 after.journal) (ap (λ (h : HubView). h.config) turned.others_stay ∙ run.same_config) fits)

    up : IsUpTo (opening_of first) line.clock hub.journal
    up = record { reached = run.reached; owed = run.owed; goes_on = run.goes_on }

-- ---- the run with it

length_more : (es taken : List EventValue) (before taken_commits : ℕ) → length (app_commits_in es) ≡ before → length (app_commits_in taken) ≡ taken_commits
    → length (app_commits_in (es ++ taken)) ≡ before + taken_commits
length_more es taken before taken_commits first second = ap length (commits_in-append es taken) ∙ length-append (app_commits_in es) (app_commits_in taken) ∙ (λ i. first i + second i)

counted_turn : (es taken : List EventValue) (arrivals new : List ArrivalValue) (brought_ticks : ℕ) (quit : Bool)
    → length (app_commits_in es) + 0 ≤ length arrivals + ticks_in es → length (app_commits_in taken) + (if quit then 1 else 0) ≤ 1
    → ticks_in taken ≡ brought_ticks → 1 ≤ length new + brought_ticks
    → length (app_commits_in (es ++ taken)) + (if quit then 1 else 0) ≤ length (arrivals ++ new) + ticks_in (es ++ taken)
counted_turn es taken arrivals new brought_ticks quit before few ticks some =
    omega (
      arith,
      before,
      few,
      ticks,
      some,
      length_more es taken (length (app_commits_in es)) (length (app_commits_in taken)) refl refl,
      length-append arrivals new,
      ticks_in-append es taken,
    )

or_left : (a b : Bool) → (a || b) ≡ false → a ≡ false
or_left false b e = refl
or_left true b e = absurd (true≢false e)

or_right : (a b : Bool) → (a || b) ≡ false → b ≡ false
or_right false b e = e
or_right true b e = absurd (true≢false e)

counted_quits : (first before after : ℕ) (quit : Bool) → before ≡ first + 0 → after ≡ before + (if quit then 1 else 0) → after ≡ first + (if quit then 1 else 0)
counted_quits first before after quit same more = omega (arith, same, more)

not_true : (b : Bool) → (b ≡ true → ⊥) → b ≡ false
not_true false f = refl
not_true true f = absurd (f refl)

run_turn_at : (laws : RunLaws) (first hub after : HubView) (told one two three : Option PortContents) (line asked : Line) (failed full full_turn quit : Bool) (brought : Got)
    (sends : List SendingValue) (gates : ℕ) (due : ℤ)
    → IsConfig hub.config × IsMoment hub.opened_at → due ≡ due_of (machine_of hub) → HasAsked gates due line asked one two brought
    → HasTurned hub after asked.clock brought sends quit full_turn → AreFitting (length after.config.gates) 0 0 after.journal
    → HasPosted sends asked.failed failed two three → full ≡ (asked.full || full_turn)
    → IsRunning first hub told one line false
    → IsRunning first after told three (record { clock = asked.clock; closed = asked.closed; failed = failed; full = full }) quit
run_turn_at laws first hub after told one two three line asked failed full full_turn quit brought sends gates due opens due_is ask turned fits posted full_is run =
    record {
      turns = run.turns ++ (record { now = asked.clock; got = brought; sends = sends; quit = quit; full = full_turn; hub = after }) ∷ [];
      turned = turned_more first hub run.turns (record { now = asked.clock; got = brought; sends = sends; quit = quit; full = full_turn; hub = after }) run.turned turned;
      quits = quits_more run.turns (record { now = asked.clock; got = brought; sends = sends; quit = quit; full = full_turn; hub = after }) quit refl run.quits;
      full_is = full_then ∙ ap (λ b. b || full_turn) run.full_is ∙ sym (full_more run.turns (record { now = asked.clock; got = brought; sends = sends; quit = quit; full = full_turn; hub = after }));
      same_config = done.config;
      same_opening = done.opening;
      same_most = done.most;
      same_handed = ap (λ (h : HubView). h.handed) turned.others_stay ∙ run.same_handed;
      quits_are = counted_quits first.quits hub.quits after.quits quit run.quits_are turned.quits;
      arrivals = run.arrivals ++ ask.arrivals;
      posts = run.posts ++ posted.posts;
      grown = grown_turn run.arrivals ask.arrivals run.posts posted.posts told one two three run.grown ask.grown posted.grown;
      clock_is = clock_now ∙ sym (clock-append first.opened_at run.arrivals ask.arrivals);
      moment = ask.moment;
      reached = up.reached;
      order = subst (λ (l : List EventValue). AreInOrder (opening_of first) [] l) (sym done.journal) (in_order-append (opening_of first) [] hub.journal done.taken run.order done.gone.order);
      owed = up.owed;
      ticked = λ e. inl (ticked_then (or_left line.full full_turn (sym full_then ∙ e)) (or_right line.full full_turn (sym full_then ∙ e)));
      goes_on = up.goes_on;
      heard = subst (λ (b : Bool). IsHeard b first.config first.opened_at (run.arrivals ++ ask.arrivals) after.journal) (sym full_then)
          (subst (λ (l : List EventValue). IsHeard (line.full || full_turn) first.config first.opened_at (run.arrivals ++ ask.arrivals) l) (sym done.journal) heard_then);
      fits = done.fits;
      no_room = λ e. no_room_after line.full run.no_room (sym full_then ∙ e);
      sent = λ works. sent_turn run.posts (sent_of first.config first.opened_at hub.journal) sends (sent_of first.config first.opened_at after.journal) asked.failed failed two three
          sent_grows posted sent_before works;
      unsent = some.0;
      some_sent = some.1;
      before_each = before_then;
      closed = closed_then;
      counted = λ works comes room.
          subst (λ (l : List EventValue). length (app_commits_in l) + (if quit then 1 else 0) ≤ length (run.arrivals ++ ask.arrivals) + ticks_in l) (sym done.journal)
          (counted_turn hub.journal done.taken run.arrivals ask.arrivals (ticks_in (got_events asked.clock brought)) quit
          (run.counted (failed_before (works_before works)) (closed_before comes) (or_left line.full full_turn (sym full_then ∙ room))) done.commits
          (done.ticks (or_right line.full full_turn (sym full_then ∙ room)))
          (ask.works (or_left line.full full_turn (sym full_then ∙ room)) (closed_before comes) comes (works_before works)));
    }
  where
    full_then : full ≡ (line.full || full_turn)
    full_then = full_is ∙ ap (λ b. b || full_turn) ask.full

    le : line.clock ≤ℤ asked.clock
    le = subst (λ (n : ℤ). line.clock ≤ℤ n) (sym ask.clock_is) (clock_grows line.clock ask.arrivals)

    done : HasDone first hub after asked.clock brought sends quit full_turn
    done = has_done laws first hub after told one line asked.clock due brought sends quit full_turn run opens due_is le ask.timely turned fits

    up : IsUpTo (opening_of first) asked.clock after.journal
    up = subst (λ (l : List EventValue). IsUpTo (opening_of first) asked.clock l) (sym done.journal) done.gone.after

    clock_now : asked.clock ≡ clock_after (clock_after first.opened_at run.arrivals) ask.arrivals
    clock_now = ask.clock_is ∙ ap (λ n. clock_after n ask.arrivals) run.clock_is

    works_before : failed ≡ false → asked.failed ≡ false
    works_before works = (posted.all works).0

    failed_before : asked.failed ≡ false → line.failed ≡ false
    failed_before works = not_true line.failed (λ e. true≢false (sym (ask.stays_failed e).0 ∙ works))

    closed_before : asked.closed ≡ false → line.closed ≡ false
    closed_before comes = not_true line.closed (λ e. true≢false (sym (ask.stays_closed e) ∙ comes))

    ticks_then : ticks_in after.journal ≡ ticks_in hub.journal + ticks_in done.taken
    ticks_then = ap ticks_in done.journal ∙ ticks_in-append hub.journal done.taken

    due_here : due_of (machine_after (opening_of first) hub.journal) ≤ℤ line.clock → due ≤ℤ line.clock
    due_here at = subst (λ (n : ℤ). n ≤ℤ line.clock) (sym (due_is ∙ ap due_of (machine_as first hub hub.journal run.same_config run.same_opening))) at

    ticked_then : line.full ≡ false → full_turn ≡ false → 0 < ticks_in after.journal
    ticked_then room room_now =
        ⊎_elim
        (λ (some : 0 < ticks_in hub.journal). omega (arith, some, ticks_then))
        (λ (t : (false ≡ false) × (due_of (machine_after (opening_of first) hub.journal) ≤ℤ line.clock)).
        let one : ticks_in done.taken ≡ 1 = done.ticks room_now ∙ ap (λ g. ticks_in (got_events asked.clock g)) (ask.ticks (due_here t.1)) in omega (arith, one, ticks_then))
        (run.ticked room)

    early : 0 < length ask.arrivals → (clock_after first.opened_at run.arrivals <ℤ due_of (machine_after (opening_of first) hub.journal)) × (line.full ≡ false)
    early some =
        let asked_early = ask.early some in
        (subst (λ (x : ℤ × ℤ). x.0 <ℤ x.1) (λ k. (run.clock_is k, (due_is ∙ ap due_of (machine_as first hub hub.journal run.same_config run.same_opening)) k)) asked_early.0, asked_early.1)

    heard_then : AreHeard (line.full || full_turn) (opening_of first) first.opened_at [] (run.arrivals ++ ask.arrivals) (hub.journal ++ done.taken)
    heard_then =
        heard_turn line.full full_turn (opening_of first) first.opened_at run.arrivals ask.arrivals hub.journal done.taken laws.machine run.heard ask.one early
        (λ e. done.no_room_before (run.no_room e)) (subst (λ (n : ℤ). AreAt n done.taken) clock_now done.gone.at)
        (λ none. ⊎_elim (λ (same : datagram_events_in done.taken ≡ datagram_events_in (got_events asked.clock brought)). same ∙ ask.brings_none none)
        (λ (t : (full_turn ≡ true) × (datagram_events_in done.taken ≡ [])). t.1) done.datagrams)
        (λ arrival one_is. ⊎_elim
        (λ (same : datagram_events_in done.taken ≡ datagram_events_in (got_events asked.clock brought)).
        inl (same ∙ ask.brings arrival one_is ∙ ap (λ n. brought_by n arrival) clock_now))
        (λ (t : (full_turn ≡ true) × (datagram_events_in done.taken ≡ [])). inr t) done.datagrams)

    no_room_after : (was_full : Bool) → (was_full ≡ true → length hub.journal ≡ first.most) → (was_full || full_turn) ≡ true → length after.journal ≡ first.most
    no_room_after true no_room told_so =
        ap length (done.journal ∙ ap (λ l. hub.journal ++ l) (done.no_room_before (no_room refl)) ∙ append-nil hub.journal) ∙ no_room refl
    no_room_after false no_room told_so = done.no_room told_so

    sent_grows : sent_of first.config first.opened_at after.journal ≡ sent_of first.config first.opened_at hub.journal ++ sends
    sent_grows = ap (λ l. sent_by (opening_of first) l) done.journal ∙ laws.sent (opening_of first) hub.journal done.taken ∙ ap (λ l. sent_by (opening_of first) hub.journal ++ l) (sym done.sends_are)

    sent_before : asked.failed ≡ false → run.posts ≡ posts_of (sent_of first.config first.opened_at hub.journal)
    sent_before works = run.sent (failed_before works)

    some : (rest : List PostValue) × (posts_of (sent_of first.config first.opened_at after.journal) ≡ (run.posts ++ posted.posts) ++ rest)
    some = some_sent_turn run.posts run.unsent (sent_of first.config first.opened_at hub.journal) sends (sent_of first.config first.opened_at after.journal) asked.failed failed two three
        sent_grows posted sent_before run.some_sent

    before_then : ArePostedBefore first.config first.opened_at after.journal (run.posts ++ posted.posts)
    before_then before later gate from bytes at is =
        ⊎_elim
        (λ (t : (more : List EventValue) × (hub.journal ≡ before ++ Rx gate from bytes at ∷ more)).
        grows_more (posts_of (sent_of first.config first.opened_at before)) run.posts posted.posts (run.before_each before t.0 gate from bytes at t.1))
        (λ (t : (part : List EventValue) × (before ≡ hub.journal ++ part) × (done.taken ≡ part ++ Rx gate from bytes at ∷ later)).
        let nothing : sent_of first.config first.opened_at before ≡ sent_of first.config first.opened_at hub.journal =
        ap (λ l. sent_by (opening_of first) l) t.1 ∙ laws.sent (opening_of first) hub.journal t.0
        ∙ ap (λ l. sent_by (opening_of first) hub.journal ++ l) (nothing_sent_by t.0 (machine_after (opening_of first) hub.journal) (done.silent gate from bytes at t.0 later t.2))
        ∙ append-nil (sent_by (opening_of first) hub.journal) in
        (posted.posts, ap (λ l. l ++ posted.posts) (run.sent (works_then gate from bytes at t.0 later t.2) ∙ ap posts_of (sym nothing))))
        (cut_datagram gate from bytes at hub.journal done.taken before later (sym done.journal ∙ is))
      where
        -- an arrival came, so the port worked
        works_then : (gate : Gate) (from : Endpoint) (bytes : List ℕ) (at : ℤ) (part rest : List EventValue) → done.taken ≡ part ++ Rx gate from bytes at ∷ rest → line.failed ≡ false
        works_then gate from bytes at part rest is = by_arrivals ask.arrivals refl
          where
            by_arrivals : (l : List ArrivalValue) → ask.arrivals ≡ l → line.failed ≡ false
            by_arrivals [] none =
                absurd (some_datagram gate from bytes at part rest
                (ap datagram_events_in (sym is)
                ∙ ⊎_elim (λ (same : datagram_events_in done.taken ≡ datagram_events_in (got_events asked.clock brought)). same ∙ ask.brings_none none)
                (λ (t : (full_turn ≡ true) × (datagram_events_in done.taken ≡ [])). t.1) done.datagrams))
            by_arrivals (x ∷ l) some = (ask.early (omega (arith, ap length some))).2

    closed_then : asked.closed ≡ true → IfSome three (λ contents. contents.left ≡ [])
    closed_then comes = still_none_left posted.posts two three posted.grown (by_closed line.closed refl)
      where
        by_closed : (was : Bool) → line.closed ≡ was → IfSome two (λ contents. contents.left ≡ [])
        by_closed true test = still_none_given ask.arrivals one two ask.grown (run.closed test)
        by_closed false test = ask.closed test comes

-- the same, with the clock as it is stored
pub run_turn : (laws : RunLaws) (first hub after : HubView) (told one two three : Option PortContents) (line asked : Line) (failed full full_turn quit : Bool) (brought : Got)
    (sends list : List SendingValue) (gates : ℕ) (due : ℤ)
    → IsConfig hub.config × IsMoment hub.opened_at → due ≡ due_of (machine_of hub) → HasAsked gates due line asked one two brought
    → HasTurned hub after (to_z w64 (of_z w64 asked.clock)) brought sends quit full_turn → AreFitting (length after.config.gates) 0 0 after.journal
    → list ≡ sends → HasPosted list asked.failed failed two three → full ≡ (asked.full || full_turn)
    → IsRunning first hub told one line false
    → IsRunning first after told three (record { clock = asked.clock; closed = asked.closed; failed = failed; full = full }) quit
run_turn laws first hub after told one two three line asked failed full full_turn quit brought sends list gates due opens due_is ask turned fits list_is posted full_is run =
    run_turn_at laws first hub after told one two three line asked failed full full_turn quit brought sends gates due opens due_is ask
    (subst (λ (n : ℤ). HasTurned hub after n brought sends quit full_turn) (to_z-of_z w64 asked.clock (moment_fits asked.clock ask.moment)) turned) fits
    (subst (λ (l : List SendingValue). HasPosted l asked.failed failed two three) list_is posted) full_is run
