-- The events of a load, one after the other.
use Rattle.std.proofs.Common.{◌≡◌, ◌≤◌, ◌+◌, ◌++◌, ◌⊎◌, [], ◌∷◌, inl, inr, zero, suc, length, take, List, ℕ, Option, Some, refl, ap, ap₂, sym, subst, ◌∙◌, arith, length-append}
use Rattle.std.specs.Prelude.{slice_get}
use Rattle.lk_outside.specs.Transfer.{AppendsPrefix}
use Rattle.client_state.specs.declared.state.State.{State}
use Rattle.link_node.specs.Event.{EventValue, app_after}
use Rattle.link_node.specs.Machine.{Machine}
use Rattle.link_node.specs.Runs.{machine_after, published_by, sent_by}
use Rattle.link_node.specs.Step.{sends_of, step_of}
use Rattle.link_text.specs.Load.{AreLoadEvents, IsLoadText, load_event_of, load_line_of, load_machine_after, load_opened, load_text_of}
use Rattle.link_text.specs.LoadRun.{LoadRun}
use Rattle.link_text.specs.ReplayText.{published_in, state_line_of}
use Rattle.link_commands.specs.declared.counts.Counts.{Counts}
use Rattle.link_commands.specs.Loading.{HasTaken, told_of}
use Rattle.link_commands.specs.Outlet.{HandsOver}
use Rattle.link_commands.proofs.OutletLemmas.{hands_both, hands_whole_part}
use Rattle.link_commands.proofs.ReplayingLemmas.{app_rises}

-- ---- the events so far

-- an element of a list with one more at its end is one of the list, or that one
at_end : (es : List EventValue) (e other : EventValue) (k : ℕ) → slice_get (es ++ e ∷ []) k ≡ Some other
    → ((slice_get es k ≡ Some other) × (take k (es ++ e ∷ []) ≡ take k es)) ⊎ ((k ≡ length es) × ((other ≡ e) × (take k (es ++ e ∷ []) ≡ es)))
at_end [] e other zero got = inr (refl, (cc, refl))
at_end [] e other (suc k) got = absurd cc
at_end (x ∷ es) e other zero got = inl (got, refl)
at_end (x ∷ es) e other (suc k) got = elim (at_end es e other k got) [
  | inl h ↦ inl (h.0, ap (λ (xs : List EventValue). x ∷ xs) h.1)
  | inr h ↦ inr (ap suc h.0, (h.1.0, ap (λ (xs : List EventValue). x ∷ xs) h.1.1))
]

none_in_turn : (seed : ℕ) → AreLoadEvents seed []
none_in_turn seed k e got = absurd cc

next_in_turn : (seed : ℕ) (es : List EventValue) (e : EventValue) → AreLoadEvents seed es
    → e ≡ load_event_of seed (length es) (load_machine_after seed es).published
    → AreLoadEvents seed (es ++ e ∷ [])
next_in_turn seed es e in_turn is k other got = elim (at_end es e other k got) [
  | inl h ↦ in_turn k other h.0 ∙ ap (λ (xs : List EventValue). load_event_of seed k (load_machine_after seed xs).published) (sym h.1)
  | inr h ↦ h.1.0 ∙ is ∙ ap₂ (λ (n : ℕ) (xs : List EventValue). load_event_of seed n (load_machine_after seed xs).published) (sym h.0) (sym h.1.1)
]

-- ---- what they came to

-- a load at its beginning
pub run_none : (run : LoadRun) → run.made ≡ 0 → run ≡ record { seed = run.seed; made = 0 }
run_none run none = ap (λ (n : ℕ). record { seed = run.seed; made = n }) none

-- no event was taken
pub taken_none : (seed : ℕ) (run : LoadRun) (Stands : Machine → Type 0) (gates app : ℕ) (counts : Counts)
    → run ≡ record { seed = seed; made = 0 } → Stands (load_opened seed) → gates ≡ 1 → app ≡ 0
    → counts ≡ record { events = 0; states = 1; sends = 0 }
    → HasTaken seed run Stands gates app counts
unfolding machine_after published_by sent_by
taken_none seed run Stands gates app counts run_is stands gates_are no_app none = record {
  events = [];
  in_turn = none_in_turn seed;
  so_many = sym (ap (λ (c : Counts). c.events) none);
  run_is = run_is ∙ ap (λ (n : ℕ). record { seed = seed; made = n }) (sym (ap (λ (c : Counts). c.events) none));
  stands = stands;
  states_are = ap (λ (c : Counts). c.states) none;
  sends_are = ap (λ (c : Counts). c.sends) none;
  one_gate = gates_are;
  few_commits = omega (arith, no_app);
  few_states = omega (arith, ap (λ (c : Counts). c.states) none);
  few_sends = omega (arith, ap (λ (c : Counts). c.sends) none);
}

-- what the laws say of a run of two lists of events
abbrev pub MachineGoesOn : Type 0
MachineGoesOn = (m : Machine) (es fs : List EventValue) → machine_after m (es ++ fs) ≡ machine_after (machine_after m es) fs

abbrev pub SendsGoOn : Type 0
SendsGoOn = (m : Machine) (es fs : List EventValue) → sent_by m (es ++ fs) ≡ sent_by m es ++ sent_by (machine_after m es) fs

abbrev pub StatesGoOn : Type 0
StatesGoOn = (m : Machine) (es fs : List EventValue) → published_by m (es ++ fs) ≡ published_by m es ++ published_by (machine_after m es) fs

-- one event more
pub taken_more : (machines : MachineGoesOn) (sent : SendsGoOn) (published : StatesGoOn)
    (seed : ℕ) (run run' : LoadRun) (Stands Stands' : Machine → Type 0) (gates app gates' app' : ℕ) (counts counts' : Counts) (e : EventValue) (state : State)
    → ((m : Machine) → Stands m → state ≡ m.published)
    → e ≡ load_event_of run.seed run.made state → run' ≡ record run { made = run.made + 1 }
    → ((m : Machine) → Stands m → Stands' (step_of m e)) → gates' ≡ gates → app' ≡ app_after app e
    → counts'.events ≡ counts.events + 1
    → ((m : Machine) → Stands m → counts'.states ≡ counts.states + length (published_in m e))
    → ((m : Machine) → Stands m → counts'.sends ≡ counts.sends + length (sends_of m e))
    → counts'.states ≤ counts.states + 1 → counts'.sends ≤ counts.sends + 129
    → HasTaken seed run Stands gates app counts → HasTaken seed run' Stands' gates' app' counts'
unfolding machine_after published_by sent_by
taken_more machines sent published seed run run' Stands Stands' gates app gates' app' counts counts' e state shows event run_is steps same_gates app_is events_are states_are sends_are few_states few_sends has =
    let m : Machine = load_machine_after seed has.events in
    let event_is : e ≡ load_event_of seed (length has.events) m.published =
    event ∙ ap (λ (r : LoadRun). load_event_of r.seed r.made state) has.run_is
    ∙ ap₂ (λ (n : ℕ) (s : State). load_event_of seed n s) (sym has.so_many) (shows m has.stands) in
    let more_states = states_are m has.stands in
    let more_sends = sends_are m has.stands in
    record {
      events = has.events ++ e ∷ [];
      in_turn = next_in_turn seed has.events e has.in_turn event_is;
      so_many = omega (arith, length-append has.events (e ∷ []), has.so_many, events_are);
      run_is = run_is ∙ ap (λ (r : LoadRun). record r { made = r.made + 1 }) has.run_is
          ∙ ap (λ (n : ℕ). record { seed = seed; made = n }) (sym events_are);
      stands = subst Stands' (sym (machines (load_opened seed) has.events (e ∷ []))) (steps m has.stands);
      states_are = omega (
        arith,
        more_states,
        has.states_are,
        ap length (published (load_opened seed) has.events (e ∷ [])),
        length-append (published_by (load_opened seed) has.events) (published_by m (e ∷ [])),
        length-append (published_in m e) [],
      );
      sends_are = omega (
        arith,
        more_sends,
        has.sends_are,
        ap length (sent (load_opened seed) has.events (e ∷ [])),
        length-append (sent_by (load_opened seed) has.events) (sent_by m (e ∷ [])),
        length-append (sends_of m e) [],
      );
      one_gate = same_gates ∙ has.one_gate;
      few_commits = omega (arith, has.few_commits, app_rises app e, app_is, events_are);
      few_states = omega (arith, has.few_states, few_states, events_are);
      few_sends = omega (arith, has.few_sends, few_sends, events_are);
    }

-- ---- the text

-- what is told of all events is the text of the load
pub load_text : (seed count : ℕ) (run : LoadRun) (Stands : Machine → Type 0) (gates app : ℕ) (counts : Counts) (state : State)
    → HasTaken seed run Stands gates app counts → ((m : Machine) → Stands m → state ≡ m.published) → counts.events ≡ count
    → IsLoadText seed count (told_of counts state)
unfolding load_text_of
load_text seed count run Stands gates app counts state has shows events_are = record {
  events = has.events;
  in_turn = has.in_turn;
  so_many = has.so_many ∙ events_are;
  text_is = ap₂ (λ (a b : List ℕ). a ++ b)
      (ap (λ (n : ℕ). load_line_of n counts.states counts.sends) (sym has.so_many)
      ∙ ap₂ (λ (states sends : ℕ). load_line_of (length has.events) states sends) has.states_are has.sends_are)
      (ap₂ (λ (n : ℕ) (s : State). state_line_of 2 n s) (omega (arith, has.states_are)) (shows (load_machine_after seed has.events) has.stands));
}

-- the sink failed at what was kept
pub told_part_kept : (line more : List ℕ) (before now then_ after : Option (List ℕ)) (kept kept' kept'' : List ℕ) → kept ≡ []
    → HandsOver line before kept now kept' → HandsOver more now kept' then_ kept'' → AppendsPrefix then_ kept'' after
    → AppendsPrefix before (line ++ more) after
told_part_kept line more before now then_ after kept kept' kept'' none one two part =
    let both = hands_both before now then_ kept kept' kept'' line more one two in
    hands_whole_part before then_ after (line ++ more) kept'' (rw none at both) part
