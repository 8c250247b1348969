-- The network's loop: its first turn, what goes out on which gate, and its end.
use Rattle.std.proofs.Common.{◌≡◌, ℕ, ℤ, ◌+◌, ◌<◌, ◌≤◌, ◌≤ℤ◌, ◌⊎◌, Bool, true, false, not, List, [], ◌∷◌, ◌++◌, length, length-append, Option, Some, None, refl, sym, ap, subst, ◌∙◌, inl, inr, ⊎_elim, to_z, of_z, w64, true≢false, rules, arith}
use Rattle.std.specs.Prelude.{IfSome}
use Rattle.std.specs.List.{AllByRecursion}
use Rattle.std.specs.Int.{int_min}
use Rattle.std.proofs.lemmas.Int.{ints, clamps, to_z-of_z}
use Rattle.std.proofs.lemmas.List.{length-map}
use Rattle.lk_base.specs.Ranges.{IsMoment}
use Rattle.lk_base.specs.declared.endpoint.Endpoint.{Endpoint}
use Rattle.lk_outside.specs.Faults.{Rose}
use Rattle.lk_outside.specs.Port.{PortContents, PortSeen}
use Rattle.link_node.specs.Config.{ConfigValue}
use Rattle.link_node.specs.Due.{due_of, earliest_of}
use Rattle.link_node.specs.Event.{EventValue, Rx, SendingValue}
use Rattle.link_node.specs.Machine.{Machine}
use Rattle.link_node.specs.Opening.{opened}
use Rattle.link_node.specs.Runs.{machine_after, sent_by, sent_of, AreFitting}
use Rattle.link_shared.specs.Hub.{HubView, HasTurned, opening_of, machine_of}
use Rattle.link_shared.specs.Journal.{app_commits_in}
use Rattle.link_shared.specs.declared.got.Got.{Got}
use Rattle.link_live.specs.Journal.{AreInOrder, IsHeard, has_ended, ticks_in}
use Rattle.link_live.specs.Network.{HasCause, HasGrown, HasMore, IsNetworkRun, locals_of, posts_of}
use Rattle.link_live.specs.Running.{RunLaws, IsRunning}
use Rattle.link_live.specs.declared.network.Line.{Line}
use Rattle.link_live.proofs.AskLemmas.{moment_fits}
use Rattle.link_live.proofs.GrownLemmas.{itself_told, grown_none}
use Rattle.link_live.proofs.HeardLemmas.{clock_none}
use Rattle.link_live.proofs.JournalLemmas.{all_later}

-- ---- what a turn sends goes out on gates that are bound

on_gates : (laws : RunLaws) (hub after : HubView) (clock : ℤ) (brought : Got) (sends : List SendingValue) (quit full : Bool)
    → ((config : ConfigValue) (now : ℤ) (es : List EventValue) → AreFitting (length config.gates) 0 0 es → AllByRecursion (λ (s : SendingValue). s.gate.0 < length config.gates) (sent_of config now es))
    → HasTurned hub after clock brought sends quit full → AreFitting (length after.config.gates) 0 0 after.journal
    → AllByRecursion (λ (s : SendingValue). s.gate.0 < length hub.config.gates) sends
on_gates laws hub after clock brought sends quit full law turned fits =
    subst (λ (l : List SendingValue). AllByRecursion (λ (s : SendingValue). s.gate.0 < length hub.config.gates) l) (sym turned.offered.sends)
    (all_later (λ (s : SendingValue). s.gate.0 < length hub.config.gates) (sent_by (opening_of hub) hub.journal) (sent_by (machine_of hub) turned.offered.taken)
    (subst (λ (l : List SendingValue). AllByRecursion (λ (s : SendingValue). s.gate.0 < length hub.config.gates) l) both
    (law hub.config hub.opened_at after.journal (subst (λ (c : ConfigValue). AreFitting (length c.gates) 0 0 after.journal) (ap (λ (h : HubView). h.config) turned.others_stay) fits))))
  where
    both : sent_of hub.config hub.opened_at after.journal ≡ sent_by (opening_of hub) hub.journal ++ sent_by (machine_of hub) turned.offered.taken
    both = ap (λ l. sent_by (opening_of hub) l) turned.offered.journal ∙ laws.sent (opening_of hub) hub.journal turned.offered.taken

pub posts_on_gates : (laws : RunLaws) (hub after : HubView) (clock : ℤ) (brought : Got) (sends list : List SendingValue) (quit full : Bool) (bound : List Endpoint)
    → ((config : ConfigValue) (now : ℤ) (es : List EventValue) → AreFitting (length config.gates) 0 0 es → AllByRecursion (λ (s : SendingValue). s.gate.0 < length config.gates) (sent_of config now es))
    → HasTurned hub after clock brought sends quit full → AreFitting (length after.config.gates) 0 0 after.journal → bound ≡ locals_of hub.config → list ≡ sends
    → AllByRecursion (λ (s : SendingValue). s.gate.0 < length bound) list
posts_on_gates laws hub after clock brought sends list quit full bound law turned fits are is =
    subst (λ (l : List SendingValue). AllByRecursion (λ (s : SendingValue). s.gate.0 < length bound) l) (sym is)
    (subst (λ (n : ℕ). AllByRecursion (λ (s : SendingValue). s.gate.0 < n) sends) (sym (ap length are ∙ length-map hub.config.gates (λ gate. gate.local)))
    (on_gates laws hub after clock brought sends quit full law turned fits))

pub some_gate : (gates : ℕ) (bound : List Endpoint) (config : ConfigValue) → bound ≡ locals_of config → 1 ≤ length config.gates → 0 < length bound
some_gate gates bound config are some = subst (λ (n : ℕ). 0 < n) (sym (ap length are ∙ length-map config.gates (λ gate. gate.local))) (omega (arith, some))

-- ---- why the port isn't called again

pub not_failed : (b : Bool) → (b ≡ true → ⊥) → b ≡ false
not_failed false f = refl
not_failed true f = absurd (f refl)

pub has_risen : (before between after : ℕ) (asked failed : Bool) → (asked ≡ false → between ≡ before) → (asked ≡ true → Rose before between)
    → (asked ≡ false → failed ≡ true → Rose between after) → (asked ≡ true → after ≡ between) → failed ≡ true → Rose before after
has_risen before between after false failed same rose rose_then same_then e = subst (λ (n : ℕ). Rose n after) (same refl) (rose_then refl e)
has_risen before between after true failed same rose rose_then same_then e = subst (λ (n : ℕ). Rose before n) (sym (same_then refl)) (rose refl)

-- ---- the first turn

no_later : (at : ℤ) (others : List (Option ℤ)) → earliest_of at others ≤ℤ at
no_later at [] = omega (arith, ints)
no_later at (None ∷ others) = no_later at others
no_later at (Some other ∷ others) = ≤ℤ_then (earliest_of (int_min at other) others) (int_min at other) at (no_later (int_min at other) others) (omega (arith, ints, clamps))
  where
    ≤ℤ_then : (a b c : ℤ) → a ≤ℤ b → b ≤ℤ c → a ≤ℤ c
    ≤ℤ_then a b c first second = omega (arith, ints)

-- a broadcast is due at the opening
due_at_first : (config : ConfigValue) (at : ℤ) → due_of (opened config at) ≤ℤ at
unfolding due_of opened
due_at_first config at = search (no_later, rules)

opened_at_moment : (config : ConfigValue) (at : ℤ) → (opened config at).moment ≡ at
unfolding opened
opened_at_moment config at = refl

none_after : (m : Machine) → machine_after m [] ≡ m
unfolding machine_after
none_after m = refl

nothing_sent : (config : ConfigValue) (at : ℤ) → sent_of config at [] ≡ []
unfolding sent_by
nothing_sent config at = refl

-- nothing was asked and nothing taken yet
pub has_begun : (hub : HubView) (told : Option PortContents) (clock : ℤ) (failed : Bool) → hub.journal ≡ [] → IsMoment hub.opened_at → clock ≡ (machine_of hub).moment
    → IsRunning hub hub told told (record { clock = clock; closed = false; failed = failed; full = false }) false
has_begun hub told clock failed empty moment is = record {
  turns = [];
  turned = refl;
  quits = tt;
  full_is = refl;
  same_config = refl;
  same_opening = refl;
  same_most = refl;
  same_handed = refl;
  quits_are = omega arith;
  arrivals = [];
  posts = [];
  grown = itself_told (HasGrown [] []) told told refl grown_none;
  clock_is = clock_at ∙ sym (clock_none hub.opened_at);
  moment = subst (λ (n : ℤ). IsMoment n) (sym clock_at) moment;
  reached = subst (λ (n : ℤ). (machine_of hub).moment ≤ℤ n) (sym is) (itself (machine_of hub).moment);
  order = subst (λ (l : List EventValue). AreInOrder (opening_of hub) [] l) (sym empty) tt;
  owed = λ _. due_now;
  ticked = λ _. inr (refl, due_now);
  goes_on = ap has_ended empty;
  heard = subst (λ (l : List EventValue). IsHeard false hub.config hub.opened_at [] l) (sym empty) (record { at = tt; datagrams = inl refl });
  fits = subst (λ (l : List EventValue). length l ≤ hub.most) (sym empty) (omega arith);
  no_room = λ e. absurd (true≢false (sym e));
  sent = λ _. sym (ap posts_of (ap (λ l. sent_of hub.config hub.opened_at l) empty ∙ nothing_sent hub.config hub.opened_at));
  unsent = [];
  some_sent = ap posts_of (ap (λ l. sent_of hub.config hub.opened_at l) empty ∙ nothing_sent hub.config hub.opened_at);
  before_each = λ before after gate from bytes at is. absurd (omega (arith, ap length empty, ap length is, length-append before (Rx gate from bytes at ∷ after)));
  closed = λ e. absurd (true≢false (sym e));
  counted = λ _ _ _. subst (λ (l : List EventValue). length (app_commits_in l) + 0 ≤ 0 + ticks_in l) (sym empty) (omega arith);
}
  where
    itself : (n : ℤ) → n ≤ℤ n
    itself n = omega (arith, ints)

    first_machine : machine_of hub ≡ opening_of hub
    first_machine = ap (λ l. machine_after (opening_of hub) l) empty ∙ none_after (opening_of hub)

    clock_at : clock ≡ hub.opened_at
    clock_at = is ∙ ap (λ (m : Machine). m.moment) first_machine ∙ opened_at_moment hub.config hub.opened_at

    due_now : due_of (machine_of hub) ≤ℤ clock
    due_now = subst (λ (x : Machine × ℤ). due_of x.0 ≤ℤ x.1) (λ k. (sym first_machine k, sym clock_at k)) (due_at_first hub.config hub.opened_at)

-- ---- the end

still_open : (told : Option PortContents) (closed : Bool) → HasMore told → (closed ≡ true → IfSome told (λ contents. contents.left ≡ [])) → closed ≡ false
still_open told false more none = refl
still_open None true more none = absurd (more.1 refl)
still_open (Some contents) true more none = absurd (some_of_none contents.left (none refl) more.0)
  where
    some_of_none : {A : Type 0} (xs : List A) → xs ≡ [] → 0 < length xs → ⊥
    some_of_none [] e some = omega (arith, some)
    some_of_none (x ∷ xs) e some = absurd (cc e)

has_ended_run : (first hub : HubView) (told told_then : Option PortContents) (line : Line) → IsRunning first hub told told_then line true
    → IsNetworkRun first hub told told_then line.clock line.failed line.full
has_ended_run first hub told told_then line run = record {
  turns = run.turns;
  turned = run.turned;
  quits = run.quits;
  full_is = run.full_is;
  same_config = run.same_config;
  same_opening = run.same_opening;
  same_most = run.same_most;
  same_handed = run.same_handed;
  one_quit = run.quits_are;
  arrivals = run.arrivals;
  posts = run.posts;
  grown = run.grown;
  clock_is = run.clock_is;
  moment = run.moment;
  reached = run.reached;
  order = run.order;
  ticked = λ room. ⊎_elim (λ (some : 0 < ticks_in hub.journal). some)
      (λ (t : (true ≡ false) × (due_of (machine_after (opening_of first) hub.journal) ≤ℤ line.clock)). absurd (true≢false t.0)) (run.ticked room);
  goes_on = run.goes_on;
  heard = run.heard;
  fits = run.fits;
  no_room = run.no_room;
  sent = run.sent;
  unsent = run.unsent;
  some_sent = run.some_sent;
  before_each = run.before_each;
  outnumbered = λ more works room. fewer (length (app_commits_in hub.journal)) (length run.arrivals + ticks_in hub.journal) (run.counted works (still_open told_then line.closed more run.closed) room);
}
  where
    fewer : (a b : ℕ) → a + 1 ≤ b → a < b
    fewer a b le = omega (arith, le)

-- ---- the cause of a failure

pub has_cause : (bound : Bool) (port : PortSeen) (failed : Bool) → failed ≡ not bound → HasCause bound port port failed
has_cause true port failed is = record {
  works = λ _. (refl, refl);
  fails = λ e. absurd (true≢false (sym e ∙ is));
  unbound = λ e. absurd (true≢false e);
}
has_cause false port failed is = record {
  works = λ e. absurd (true≢false (sym is ∙ e));
  fails = λ _. inl refl;
  unbound = λ _. (is, refl, refl);
}

pub has_cause_then : (bound : Bool) (first between after : PortSeen) (failed failed_then : Bool)
    → HasCause bound first between failed
    → (failed_then ≡ false → (failed ≡ false) × (after.faults ≡ between.faults)) → (failed ≡ false → failed_then ≡ true → Rose between.faults after.faults)
    → (failed ≡ true → (failed_then ≡ true) × (after.faults ≡ between.faults) × (after.told ≡ between.told))
    → HasCause bound first after failed_then
has_cause_then bound first between after failed failed_then cause works fails stays = record {
  works = λ e. ((cause.works (works e).0).0, (works e).1 ∙ (cause.works (works e).0).1);
  fails = λ e. by_failed failed refl e;
  unbound = λ e.
      let before = cause.unbound e in
      let same = stays before.0 in (same.0, same.1 ∙ before.1, same.2 ∙ before.2);
}
  where
    by_failed : (was : Bool) → failed ≡ was → failed_then ≡ true → (bound ≡ false) ⊎ Rose first.faults after.faults
    by_failed false test e = inr (subst (λ (n : ℕ). Rose n after.faults) (cause.works test).1 (fails test e))
    by_failed true test e =
        ⊎_elim (λ (unbound : bound ≡ false). inl unbound) (λ (rose : Rose first.faults between.faults). inr (subst (λ (n : ℕ). Rose first.faults n) (sym (stays test).1) rose)) (cause.fails test)

-- the same of the turn that popped a quit, with the clock as it is stored
pub ended_run : (first hub : HubView) (told told_then : Option PortContents) (line : Line) (quit : Bool) → quit ≡ true → IsRunning first hub told told_then line quit
    → IsNetworkRun first hub told told_then (to_z w64 (of_z w64 line.clock)) line.failed line.full
ended_run first hub told told_then line quit is run =
    let last : IsRunning first hub told told_then line true = subst (λ (b : Bool). IsRunning first hub told told_then line b) is run in
    subst (λ (n : ℤ). IsNetworkRun first hub told told_then n line.failed line.full) (sym (to_z-of_z w64 line.clock (moment_fits line.clock last.moment)))
    (has_ended_run first hub told told_then line last)
