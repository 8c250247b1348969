-- The events of a script, one after the other.
use Rattle.std.proofs.Common.{◌≡◌, ◌≤◌, ◌<◌, ◌+◌, ◌++◌, [], ◌∷◌, length, take, drop, get_or, List, ℕ, ℤ, Option, refl, ap, sym, subst, ◌∙◌, arith, append_assoc, length-append}
use Rattle.std.specs.List.{flat_map}
use Rattle.std.proofs.lemmas.List.Concat.{flat_map-append}
use Rattle.std.proofs.lemmas.List.{take_more, take-append-drop, append-nil, take_all}
use Rattle.client_state.specs.declared.state.State.{State}
use Rattle.link_node.specs.Config.{ConfigValue}
use Rattle.link_node.specs.Opening.{opened}
use Rattle.link_node.specs.Event.{EventValue, SendingValue, Fits, moment_of, app_after, audio_after}
use Rattle.link_node.specs.declared.event.Change.{Change}
use Rattle.link_node.specs.Machine.{Machine}
use Rattle.link_node.specs.Runs.{published_by, published_of, sent_by, sent_of, shown_by}
use Rattle.link_node.specs.Step.{step_of, sends_of, change_of}
use Rattle.link_script.specs.ReplayScript.{SaysSome}
use Rattle.link_text.specs.ReplayText.{event_text_of, events_text_of, published_in, sending_line_of, states_text_of, state_line_of, done_line_of, replay_text_of}
use Rattle.link_commands.specs.Outlet.{HandsOver, HandsPart}
use Rattle.link_commands.specs.Replaying.{GoesOn, IsOpened}
use Rattle.link_commands.specs.Statuses.{GivesReplay}
use Rattle.link_commands.proofs.OutletLemmas.{hands_none, hands_both, part_after, part_of_more}
use Rattle.link_commands.proofs.ReplayingLemmas.{AreTakable, AreFew, IsNextEvent, IsPastAll, left_at, goes_on_says, event_fits, goes_on_more, fewer_left}

-- ---- a text for each element of a list

-- the texts of the first n elements are handed over
pub record HasHandedEach {A : Type 0} (f : A → List ℕ) (xs : List A) (n : ℕ) (before : Option (List ℕ)) (kept : List ℕ) (now : Option (List ℕ)) (kept' : List ℕ) : Type 0 where
  pub way : HandsOver (flat_map f (take n xs)) before kept now kept'

one_more : {A : Type 0} (f : A → List ℕ) (xs : List A) (n : ℕ) (x : A) → n < length xs → x ≡ get_or xs n x
    → flat_map f (take (n + 1) xs) ≡ flat_map f (take n xs) ++ f x
one_more f xs n x h is =
    ap (flat_map f) (take_more xs n x h)
    ∙ flat_map-append f (take n xs) (get_or xs n x ∷ [])
    ∙ ap (λ (ys : List ℕ). flat_map f (take n xs) ++ ys) (append-nil (f (get_or xs n x)) ∙ ap f (sym is))

pub each_next : {A : Type 0} (f : A → List ℕ) (xs : List A) (n : ℕ) (x : A) (before : Option (List ℕ)) (kept : List ℕ) (now : Option (List ℕ)) (kept' : List ℕ) (after : Option (List ℕ)) (kept'' : List ℕ)
    → n < length xs → x ≡ get_or xs n x → HasHandedEach f xs n before kept now kept' → HandsOver (f x) now kept' after kept''
    → HasHandedEach f xs (n + 1) before kept after kept''
each_next f xs n x before kept now kept' after kept'' h is has over =
    record { way = rw (one_more f xs n x h is) (hands_both before now after kept kept' kept'' _ _ has.way over) }

-- the sink failed at the next element
pub each_part : {A : Type 0} (f : A → List ℕ) (xs : List A) (n : ℕ) (x : A) (before : Option (List ℕ)) (kept : List ℕ) (now : Option (List ℕ)) (kept' : List ℕ) (after : Option (List ℕ))
    → n < length xs → x ≡ get_or xs n x → HasHandedEach f xs n before kept now kept' → HandsPart (f x) now kept' after
    → HandsPart (flat_map f xs) before kept after
each_part f xs n x before kept now kept' after h is has part =
    let here = part_after before now after kept kept' _ _ has.way part in
    let more = part_of_more before after kept _ (flat_map f (drop (n + 1) xs)) here in
    let split : flat_map f xs ≡ flat_map f (take (n + 1) xs) ++ flat_map f (drop (n + 1) xs)
    = ap (flat_map f) (sym (take-append-drop (n + 1) xs)) ∙ flat_map-append f (take (n + 1) xs) (drop (n + 1) xs) in
    rw (split, one_more f xs n x h is) more

pub each_whole : {A : Type 0} (f : A → List ℕ) (xs : List A) (n : ℕ) (before : Option (List ℕ)) (kept : List ℕ) (now : Option (List ℕ)) (kept' : List ℕ)
    → length xs ≤ n → HasHandedEach f xs n before kept now kept' → HandsOver (flat_map f xs) before kept now kept'
each_whole f xs n before kept now kept' all has = rw (take_all n xs all) at has.way

-- ---- one event

-- its datagrams and its state are handed over
pub event_over : (version : ℕ) (m : Machine) (states : ℕ) (e : EventValue) (sends : List SendingValue) (shown : List State) (before now after : Option (List ℕ)) (kept kept' kept'' : List ℕ)
    → sends ≡ sends_of m e → shown ≡ published_in m e
    → HandsOver (flat_map (sending_line_of (moment_of e)) sends) before kept now kept' → HandsOver (states_text_of version states shown) now kept' after kept''
    → HandsOver (event_text_of version m states e) before kept after kept''
unfolding event_text_of
event_over version m states e sends shown before now after kept kept' kept'' sends_are shown_is one two =
    hands_both before now after kept kept' kept'' _ _
    (subst (λ (xs : List SendingValue). HandsOver (flat_map (sending_line_of (moment_of e)) xs) before kept now kept') sends_are one)
    (subst (λ (xs : List State). HandsOver (states_text_of version states xs) now kept' after kept'') shown_is two)

-- the sink failed at its datagrams
pub event_part_first : (version : ℕ) (m : Machine) (states : ℕ) (e : EventValue) (sends : List SendingValue) (before after : Option (List ℕ)) (kept : List ℕ)
    → sends ≡ sends_of m e → HandsPart (flat_map (sending_line_of (moment_of e)) sends) before kept after
    → HandsPart (event_text_of version m states e) before kept after
unfolding event_text_of
event_part_first version m states e sends before after kept sends_are part =
    part_of_more before after kept _ (states_text_of version states (published_in m e))
    (subst (λ (xs : List SendingValue). HandsPart (flat_map (sending_line_of (moment_of e)) xs) before kept after) sends_are part)

-- the sink failed at its state
pub event_part_last : (version : ℕ) (m : Machine) (states : ℕ) (e : EventValue) (sends : List SendingValue) (shown : List State) (before now after : Option (List ℕ)) (kept kept' : List ℕ)
    → sends ≡ sends_of m e → shown ≡ published_in m e
    → HandsOver (flat_map (sending_line_of (moment_of e)) sends) before kept now kept' → HandsPart (states_text_of version states shown) now kept' after
    → HandsPart (event_text_of version m states e) before kept after
unfolding event_text_of
event_part_last version m states e sends shown before now after kept kept' sends_are shown_is one part =
    part_after before now after kept kept' _ _
    (subst (λ (xs : List SendingValue). HandsOver (flat_map (sending_line_of (moment_of e)) xs) before kept now kept') sends_are one)
    (subst (λ (xs : List State). HandsPart (states_text_of version states xs) now kept' after) shown_is part)

-- what a step sends and shows, from what the calls told
pub sent_in : (m : Machine) (e : EventValue) (list empty after : List SendingValue) → list ≡ after → empty ≡ [] → after ≡ empty ++ sends_of m e → list ≡ sends_of m e
sent_in m e list empty after listed cleared stepped = listed ∙ stepped ∙ ap (λ (xs : List SendingValue). xs ++ sends_of m e) cleared

pub shown_in : (m : Machine) (e : EventValue) (change : Change) (state : State) → change ≡ change_of m e → state ≡ (step_of m e).published
    → shown_by change state ≡ published_in m e
shown_in m e change state changed is = ap (λ (c : Change). shown_by c state) changed ∙ ap (λ (s : State). shown_by (change_of m e) s) is

-- ---- the events

-- The events before the place are taken, and what follows from them is handed over. Those that are left lead on from the machine `mid`.
pub record HasHanded (version : ℕ) (Stands : Machine → Type 0) (gates app audio : ℕ) (text : List ℕ) (at events states sends : ℕ) (start : Option (List ℕ)) (kept : List ℕ) (now : Option (List ℕ)) (kept' : List ℕ) (m : Machine) (es : List EventValue) : Type 0 where
  pub mid : Machine
  pub rest : List EventValue
  pub on : GoesOn Stands gates app audio text at mid rest
  pub events_are : events + length rest ≡ length es
  pub states_are : states + length (published_by mid rest) ≡ 1 + length (published_by m es)
  pub sends_are : sends + length (sent_by mid rest) ≡ length (sent_by m es)
  pub done : List ℕ
  pub way : HandsOver done start kept now kept'
  pub whole : done ++ events_text_of version mid states rest ≡ events_text_of version m 1 es

pub handed_none : (version : ℕ) (Stands : Machine → Type 0) (gates app audio : ℕ) (text : List ℕ) (at : ℕ) (start : Option (List ℕ)) (kept : List ℕ) (m : Machine) (es : List EventValue)
    → GoesOn Stands gates app audio text at m es → HasHanded version Stands gates app audio text at 0 1 0 start kept start kept m es
handed_none version Stands gates app audio text at start kept m es on = record {
  mid = m;
  rest = es;
  on = on;
  events_are = omega arith;
  states_are = refl;
  sends_are = omega arith;
  done = [];
  way = hands_none start kept;
  whole = refl;
}

-- some events are said at the place
pub says_some : (version : ℕ) (Stands : Machine → Type 0) (gates app audio : ℕ) (text : List ℕ) (at events states sends : ℕ) (start : Option (List ℕ)) (kept : List ℕ) (now : Option (List ℕ)) (kept' : List ℕ) (m : Machine) (es : List EventValue)
    → HasHanded version Stands gates app audio text at events states sends start kept now kept' m es → SaysSome text at
says_some version Stands gates app audio text at events states sends start kept now kept' m es has =
    goes_on_says Stands gates app audio text at has.mid has.rest has.on

pub next_fits : (law : AreTakable) (version : ℕ) (Stands : Machine → Type 0) (gates app audio : ℕ) (text : List ℕ) (at next events states sends : ℕ) (start : Option (List ℕ)) (kept : List ℕ) (now : Option (List ℕ)) (kept' : List ℕ) (m : Machine) (es : List EventValue) (e : EventValue)
    → HasHanded version Stands gates app audio text at events states sends start kept now kept' m es → IsNextEvent text at next e
    → Fits gates app audio e
next_fits law version Stands gates app audio text at next events states sends start kept now kept' m es e has is =
    event_fits law Stands gates app audio text at next has.mid has.rest e has.on is

-- there are no more events before the place than the text has bytes
pub few_so_far : (few : AreFew) (version : ℕ) (Stands : Machine → Type 0) (gates app audio first : ℕ) (Stands' : Machine → Type 0) (gates' app' audio' : ℕ) (text : List ℕ) (at events states sends : ℕ) (start : Option (List ℕ)) (kept : List ℕ) (now : Option (List ℕ)) (kept' : List ℕ) (m : Machine) (es : List EventValue)
    → GoesOn Stands gates app audio text first m es
    → HasHanded version Stands' gates' app' audio' text at events states sends start kept now kept' m es → events ≤ length text
few_so_far few version Stands gates app audio first Stands' gates' app' audio' text at events states sends start kept now kept' m es on has =
    omega (arith, has.events_are, few gates audio first text es on.says)

-- one event more
pub handed_more : (version version' : ℕ) (Stands Stands' : Machine → Type 0) (gates app audio gates' app' audio' : ℕ) (text : List ℕ) (at next events states sends events' states' sends' : ℕ) (start : Option (List ℕ)) (kept : List ℕ) (now : Option (List ℕ)) (kept' : List ℕ) (after : Option (List ℕ)) (kept'' : List ℕ) (m : Machine) (es : List EventValue) (e : EventValue)
    → HasHanded version Stands gates app audio text at events states sends start kept now kept' m es → IsNextEvent text at next e
    → version' ≡ version → ((m : Machine) → Stands m → Stands' (step_of m e)) → gates' ≡ gates → app' ≡ app_after app e → audio' ≡ audio_after audio e
    → events' ≡ events + 1
    → ((m : Machine) → Stands m → states' ≡ states + length (published_in m e))
    → ((m : Machine) → Stands m → sends' ≡ sends + length (sends_of m e))
    → ((m : Machine) → Stands m → HandsOver (event_text_of version' m states e) now kept' after kept'')
    → HasHanded version Stands' gates' app' audio' text next events' states' sends' start kept after kept'' m es
unfolding events_text_of published_by sent_by
handed_more version version' Stands Stands' gates app audio gates' app' audio' text at next events states sends events' states' sends' start kept now kept' after kept'' m es e has is same_version steps same_gates app_is audio_is events_are states_are sends_are over =
    let found = is gates audio has.rest has.on.says in
    let rest = found.0 in
    let len : length has.rest ≡ length (e ∷ rest) = ap length found.1 in
    let more_states = states_are has.mid has.on.stands in
    let more_sends = sends_are has.mid has.on.stands in
    record {
      mid = step_of has.mid e;
      rest = rest;
      on = goes_on_more Stands Stands' gates app audio gates' app' audio' text at next has.mid has.rest rest e has.on found.1 found.2 steps same_gates app_is audio_is;
      events_are = omega (arith, has.events_are, events_are, len);
      states_are = omega (arith, has.states_are, more_states, ap (λ (l : List EventValue). length (published_by has.mid l)) found.1, length-append (published_in has.mid e) (published_by (step_of has.mid e) rest));
      sends_are = omega (arith, has.sends_are, more_sends, ap (λ (l : List EventValue). length (sent_by has.mid l)) found.1, length-append (sends_of has.mid e) (sent_by (step_of has.mid e) rest));
      done = has.done ++ event_text_of version has.mid states e;
      way = hands_both start now after kept kept' kept'' _ _ has.way
          (subst (λ (v : ℕ). HandsOver (event_text_of v has.mid states e) now kept' after kept'') same_version (over has.mid has.on.stands));
      whole = append_assoc has.done (event_text_of version has.mid states e) (events_text_of version (step_of has.mid e) states' rest)
          ∙ ap (λ (n : ℕ). has.done ++ (event_text_of version has.mid states e ++ events_text_of version (step_of has.mid e) n rest)) more_states
          ∙ ap (λ (l : List EventValue). has.done ++ events_text_of version has.mid states l) (sym found.1)
          ∙ has.whole;
    }

-- the sink failed at an event
pub handed_part : (version version' : ℕ) (Stands : Machine → Type 0) (gates app audio : ℕ) (text : List ℕ) (at next events states sends : ℕ) (start : Option (List ℕ)) (kept : List ℕ) (now : Option (List ℕ)) (kept' : List ℕ) (after : Option (List ℕ)) (m : Machine) (es : List EventValue) (e : EventValue)
    → HasHanded version Stands gates app audio text at events states sends start kept now kept' m es → IsNextEvent text at next e
    → version' ≡ version → ((m : Machine) → Stands m → HandsPart (event_text_of version' m states e) now kept' after)
    → HandsPart (events_text_of version m 1 es) start kept after
unfolding events_text_of
handed_part version version' Stands gates app audio text at next events states sends start kept now kept' after m es e has is same_version part =
    let found = is gates audio has.rest has.on.says in
    let behind : List ℕ = events_text_of version (step_of has.mid e) (states + length (published_in has.mid e)) found.0 in
    let here = part_after start now after kept kept' has.done (event_text_of version has.mid states e) has.way
    (subst (λ (v : ℕ). HandsPart (event_text_of v has.mid states e) now kept' after) same_version (part has.mid has.on.stands)) in
    let more : HandsPart ((has.done ++ event_text_of version has.mid states e) ++ behind) start kept after = part_of_more start after kept (has.done ++ event_text_of version has.mid states e) behind here in
    let whole : (has.done ++ event_text_of version has.mid states e) ++ behind ≡ events_text_of version m 1 es =
    append_assoc has.done (event_text_of version has.mid states e) behind
    ∙ ap (λ (l : List EventValue). has.done ++ events_text_of version has.mid states l) (sym found.1)
    ∙ has.whole in
    subst (λ (bytes : List ℕ). HandsPart bytes start kept after) whole more

-- all events are taken
pub handed_whole : (version : ℕ) (Stands : Machine → Type 0) (gates app audio : ℕ) (text : List ℕ) (at events states sends : ℕ) (start : Option (List ℕ)) (kept : List ℕ) (now : Option (List ℕ)) (kept' : List ℕ) (m : Machine) (es : List EventValue)
    → HasHanded version Stands gates app audio text at events states sends start kept now kept' m es → IsPastAll text at
    → HandsOver (events_text_of version m 1 es) start kept now kept'
unfolding events_text_of
handed_whole version Stands gates app audio text at events states sends start kept now kept' m es has past =
    let none : has.rest ≡ [] = past gates audio has.rest has.on.says in
    let whole : has.done ≡ events_text_of version m 1 es = sym (append-nil has.done) ∙ ap (λ (l : List EventValue). has.done ++ events_text_of version has.mid states l) (sym none) ∙ has.whole in
    subst (λ (bytes : List ℕ). HandsOver bytes start kept now kept') whole has.way

pub counted_whole : (version : ℕ) (Stands : Machine → Type 0) (gates app audio : ℕ) (text : List ℕ) (at events states sends : ℕ) (start : Option (List ℕ)) (kept : List ℕ) (now : Option (List ℕ)) (kept' : List ℕ) (m : Machine) (es : List EventValue)
    → HasHanded version Stands gates app audio text at events states sends start kept now kept' m es → IsPastAll text at
    → (events ≡ length es) × ((states ≡ 1 + length (published_by m es)) × (sends ≡ length (sent_by m es)))
unfolding published_by sent_by
counted_whole version Stands gates app audio text at events states sends start kept now kept' m es has past =
    let none : has.rest ≡ [] = past gates audio has.rest has.on.says in (
      omega (arith, has.events_are, ap length none),
      (
        omega (arith, has.states_are, ap (λ (l : List EventValue). length (published_by has.mid l)) none),
        omega (arith, has.sends_are, ap (λ (l : List EventValue). length (sent_by has.mid l)) none),
      ),
    )

-- the lines that count grow fewer with each event
pub less_left : (version : ℕ) (Stands : Machine → Type 0) (gates app audio : ℕ) (text : List ℕ) (at next events states sends : ℕ) (start : Option (List ℕ)) (kept : List ℕ) (now : Option (List ℕ)) (kept' : List ℕ) (m : Machine) (es : List EventValue) (e : EventValue)
    → HasHanded version Stands gates app audio text at events states sends start kept now kept' m es → IsNextEvent text at next e
    → left_at text next < left_at text at
less_left version Stands gates app audio text at next events states sends start kept now kept' m es e has is =
    let found = is gates audio has.rest has.on.says in
    fewer_left gates audio gates (audio_after audio e) text at next has.rest found.0 e has.on.says found.2 found.1

-- ---- a whole replay

-- the output of the script
pub gives_output : (Stands : Machine → Type 0) (gates app audio version : ℕ) (text : List ℕ) (first : ℕ) (is : IsOpened Stands gates app audio version text first)
    → GivesReplay text (replay_text_of version is.config is.now is.es)
gives_output Stands gates app audio version text first is = (version, is.config, is.now, is.es, is.script, refl)

-- the sink failed at the opening state
pub replay_part_first : (version : ℕ) (config : ConfigValue) (now : ℤ) (es : List EventValue) (state : State) (before after : Option (List ℕ)) (kept : List ℕ)
    → state ≡ (opened config now).published → HandsPart (state_line_of version 0 state) before kept after
    → HandsPart (replay_text_of version config now es) before kept after
unfolding replay_text_of
replay_part_first version config now es state before after kept is part =
    part_of_more before after kept _ _
    (part_of_more before after kept (state_line_of version 0 (opened config now).published) (events_text_of version (opened config now) 1 es)
    (subst (λ (s : State). HandsPart (state_line_of version 0 s) before kept after) is part))

-- the sink failed at the events
pub replay_part_events : (version : ℕ) (config : ConfigValue) (now : ℤ) (es : List EventValue) (state : State) (before told after : Option (List ℕ)) (kept kept' : List ℕ)
    → state ≡ (opened config now).published → HandsOver (state_line_of version 0 state) before kept told kept'
    → HandsPart (events_text_of version (opened config now) 1 es) told kept' after
    → HandsPart (replay_text_of version config now es) before kept after
unfolding replay_text_of
replay_part_events version config now es state before told after kept kept' is one part =
    part_of_more before after kept _ _
    (part_after before told after kept kept' (state_line_of version 0 (opened config now).published) (events_text_of version (opened config now) 1 es)
    (subst (λ (s : State). HandsOver (state_line_of version 0 s) before kept told kept') is one) part)

-- how much there was
abbrev pub AreCounted : ConfigValue → ℤ → List EventValue → ℕ → ℕ → ℕ → Type 0
AreCounted config now es events states sends =
    (events ≡ length es) × ((states ≡ 1 + length (published_by (opened config now) es)) × (sends ≡ length (sent_by (opened config now) es)))

done_line : (config : ConfigValue) (now : ℤ) (es : List EventValue) (events states sends : ℕ) → AreCounted config now es events states sends
    → done_line_of events states sends ≡ done_line_of (length es) (length (published_of config now es)) (length (sent_of config now es))
done_line config now es events states sends counted =
    ap (λ (n : ℕ). done_line_of n states sends) counted.0
    ∙ ap (λ (n : ℕ). done_line_of (length es) n sends) (counted.1.0 ∙ omega arith)
    ∙ ap (λ (n : ℕ). done_line_of (length es) (length (published_of config now es)) n) counted.1.1

-- the opening state and the events are handed over
both_over : (version : ℕ) (config : ConfigValue) (now : ℤ) (es : List EventValue) (state : State) (before told after : Option (List ℕ)) (kept kept' kept'' : List ℕ)
    → state ≡ (opened config now).published
    → HandsOver (state_line_of version 0 state) before kept told kept'
    → HandsOver (events_text_of version (opened config now) 1 es) told kept' after kept''
    → HandsOver (state_line_of version 0 (opened config now).published ++ events_text_of version (opened config now) 1 es) before kept after kept''
both_over version config now es state before told after kept kept' kept'' is one two =
    hands_both before told after kept kept' kept'' _ _
    (subst (λ (s : State). HandsOver (state_line_of version 0 s) before kept told kept') is one) two

-- the sink failed at the last line
pub replay_part_done : (version : ℕ) (config : ConfigValue) (now : ℤ) (es : List EventValue) (state : State) (events states sends : ℕ) (before told then_ after : Option (List ℕ)) (kept kept' kept'' : List ℕ)
    → state ≡ (opened config now).published → AreCounted config now es events states sends
    → HandsOver (state_line_of version 0 state) before kept told kept'
    → HandsOver (events_text_of version (opened config now) 1 es) told kept' then_ kept''
    → HandsPart (done_line_of events states sends) then_ kept'' after
    → HandsPart (replay_text_of version config now es) before kept after
unfolding replay_text_of
replay_part_done version config now es state events states sends before told then_ after kept kept' kept'' is counted one two part =
    part_after before then_ after kept kept'' _ _ (both_over version config now es state before told then_ kept kept' kept'' is one two)
    (subst (λ (line : List ℕ). HandsPart line then_ kept'' after) (done_line config now es events states sends counted) part)

-- all is handed over
pub replay_over : (version : ℕ) (config : ConfigValue) (now : ℤ) (es : List EventValue) (state : State) (events states sends : ℕ) (before told then_ after : Option (List ℕ)) (kept kept' kept'' last : List ℕ)
    → state ≡ (opened config now).published → AreCounted config now es events states sends
    → HandsOver (state_line_of version 0 state) before kept told kept'
    → HandsOver (events_text_of version (opened config now) 1 es) told kept' then_ kept''
    → HandsOver (done_line_of events states sends) then_ kept'' after last
    → HandsOver (replay_text_of version config now es) before kept after last
unfolding replay_text_of
replay_over version config now es state events states sends before told then_ after kept kept' kept'' last is counted one two three =
    hands_both before then_ after kept kept'' last _ _ (both_over version config now es state before told then_ kept kept' kept'' is one two)
    (subst (λ (line : List ℕ). HandsOver line then_ kept'' after last) (done_line config now es events states sends counted) three)
