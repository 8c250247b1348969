-- The blocks of a MIDI clock, one after the other.
use Rattle.std.proofs.Common.{◌≡◌, ◌≤◌, ◌<◌, ◌+◌, ◌-◌, ◌*◌, ◌++◌, [], ◌∷◌, suc, length, List, ℕ, ℤ, pos, ◌+ℤ◌, ◌≤ℤ◌, ◌<ℤ◌, int_le, Bool, true, false, cond, All, Option, Result, Ok, Err, OnOk, OnErr, refl, ap, sym, subst, ◌∙◌, arith, append_assoc, append-nil, length-append}
use Rattle.std.proofs.lemmas.Int.{ints}
use Rattle.std.specs.List.{flat_map}
use Rattle.std.proofs.lemmas.List.Concat.{flat_map-append}
use Rattle.std.proofs.lemmas.List.Elements.{All-same}
use Rattle.client_state.specs.declared.state.State.{State}
use Rattle.link_midi.specs.Events.{Part, all_events_of, events_from, events_of, running_after, running_from, span}
use Rattle.link_midi.specs.Messages.{IsMessage}
use Rattle.link_midi.specs.declared.message.MidiEvent.{MidiEvent}
use Rattle.link_node.specs.Config.{ConfigValue}
use Rattle.link_node.specs.Event.{EventValue, moment_of, app_after, audio_after}
use Rattle.link_node.specs.Machine.{Machine}
use Rattle.link_node.specs.Opening.{opened}
use Rattle.link_node.specs.Runs.{machine_after, replayed}
use Rattle.link_node.specs.Step.{step_of}
use Rattle.link_script.specs.ReplayScript.{IsScriptOf}
use Rattle.link_commands.specs.MidiText.{MidiRun, begin_of, blocks_line_of, due_by, midi_events_of, midi_line_of, midi_text_of, part_of, parts_from}
use Rattle.link_commands.specs.Outlet.{HandsOver, HandsPart}
use Rattle.link_commands.specs.Replaying.{GoesOn, IsOpened}
use Rattle.link_commands.specs.Statuses.{GivesMidi}
use Rattle.link_commands.proofs.LoadLemmas.{MachineGoesOn}
use Rattle.link_commands.proofs.OutletLemmas.{hands_none, hands_both, part_after, part_of_more}
use Rattle.link_commands.proofs.ReplayingLemmas.{AreFew, IsNextEvent, left_at, fewer_left, goes_on_more, opened_goes_on}

-- ---- events that are due

le_true : (x y : ℤ) → x ≤ℤ y → int_le x y ≡ true
le_true x y h = let e : true ≡ int_le x y = omega (arith, ints) in sym e

le_false : (x y : ℤ) → y <ℤ x → int_le x y ≡ false
le_false x y h = let e : false ≡ int_le x y = omega (arith, ints) in sym e

le_from : (x y : ℤ) → int_le x y ≡ true → x ≤ℤ y
le_from x y e = omega (arith, ints)

due_first : (time : ℤ) (e : EventValue) (es : List EventValue) → moment_of e ≤ℤ time → due_by time (e ∷ es) ≡ e ∷ due_by time es
unfolding due_by
due_first time e es le = ap (λ b. cond b (e ∷ due_by time es) []) (le_true (moment_of e) time le)

pub none_due : (time : ℤ) (e : EventValue) (es rest : List EventValue) → es ≡ e ∷ rest → time <ℤ moment_of e → due_by time es ≡ []
unfolding due_by
none_due time e es rest is lt = ap (due_by time) is ∙ ap (λ b. cond b (e ∷ due_by time rest) []) (le_false (moment_of e) time lt)

pub none_left : (time : ℤ) (es : List EventValue) → es ≡ [] → due_by time es ≡ []
unfolding due_by
none_left time es none = ap (due_by time) none

-- each of these comes at or before a time
abbrev pub AreDue : ℤ → List EventValue → Type 0
AreDue time [] = Unit {0}
AreDue time (e ∷ es) = (moment_of e ≤ℤ time) × AreDue time es

due_later : (time later : ℤ) (es : List EventValue) → time ≤ℤ later → AreDue time es → AreDue later es
due_later time later [] le due = tt
due_later time later (e ∷ es) le due =
    let first : moment_of e ≤ℤ time = due.0 in
    (omega (arith, ints), due_later time later es le due.1)

due_both : (time : ℤ) (es fs : List EventValue) → AreDue time es → AreDue time fs → AreDue time (es ++ fs)
due_both time [] fs due more = more
due_both time (e ∷ es) fs due more = (due.0, due_both time es fs due.1 more)

-- behind some that are due come those of the rest
due_behind : (time : ℤ) (es fs : List EventValue) → AreDue time es → due_by time (es ++ fs) ≡ es ++ due_by time fs
due_behind time [] fs due = refl
due_behind time (e ∷ es) fs due = due_first time e (es ++ fs) due.0 ∙ ap (λ (xs : List EventValue). e ∷ xs) (due_behind time es fs due.1)

due_if : (time : ℤ) (e : EventValue) (es : List EventValue) (b : Bool) → int_le (moment_of e) time ≡ b → AreDue time es
    → AreDue time (cond b (e ∷ es) [])
due_if time e es true le due = (le_from (moment_of e) time le, due)
due_if time e es false le due = tt

are_due : (time : ℤ) (es : List EventValue) → AreDue time (due_by time es)
unfolding due_by
are_due time [] = tt
are_due time (e ∷ es) = due_if time e (due_by time es) (int_le (moment_of e) time) refl (are_due time es)

-- ---- taking them

-- the node takes the next event if it comes at or before the time, or all that do
abbrev pub TakesNext : (Machine → Type 0) → ℕ → ℕ → ℕ → List ℕ → ℕ → ℤ → (Machine → Type 0) → ℕ → ℕ → ℕ → ℕ → Type 0
TakesNext Stands gates app audio text at time Stands' gates' app' audio' next =
    (m : Machine) (es : List EventValue) → GoesOn Stands gates app audio text at m es
    → (e : EventValue) × (rest : List EventValue) × (es ≡ e ∷ rest) × (moment_of e ≤ℤ time) × GoesOn Stands' gates' app' audio' text next (step_of m e) rest

abbrev pub TakesNone : (Machine → Type 0) → ℕ → ℕ → ℕ → List ℕ → ℕ → ℤ → (Machine → Type 0) → ℕ → ℕ → ℕ → ℕ → Type 0
TakesNone Stands gates app audio text at time Stands' gates' app' audio' next =
    (m : Machine) (es : List EventValue) → GoesOn Stands gates app audio text at m es
    → (due_by time es ≡ []) × GoesOn Stands' gates' app' audio' text next m es

abbrev pub TakesDue : (Machine → Type 0) → ℕ → ℕ → ℕ → List ℕ → ℕ → ℤ → (Machine → Type 0) → ℕ → ℕ → ℕ → ℕ → Type 0
TakesDue Stands gates app audio text at time Stands' gates' app' audio' next =
    (m : Machine) (es : List EventValue) → GoesOn Stands gates app audio text at m es
    → (rest : List EventValue) × (es ≡ due_by time es ++ rest) × GoesOn Stands' gates' app' audio' text next (machine_after m (due_by time es)) rest

pub takes_next : (Stands Stands' : Machine → Type 0) (gates app audio gates' app' audio' : ℕ) (text : List ℕ) (at next : ℕ) (time : ℤ) (e : EventValue)
    → IsNextEvent text at next e → moment_of e ≤ℤ time
    → ((m : Machine) → Stands m → Stands' (step_of m e)) → gates' ≡ gates → app' ≡ app_after app e → audio' ≡ audio_after audio e
    → TakesNext Stands gates app audio text at time Stands' gates' app' audio' next
takes_next Stands Stands' gates app audio gates' app' audio' text at next time e is le steps same_gates app_is audio_is m es on =
    let found = is gates audio es on.says in (
      e,
      found.0,
      found.1,
      le,
      goes_on_more Stands Stands' gates app audio gates' app' audio' text at next m es found.0 e on found.1 found.2 steps same_gates app_is audio_is,
    )

-- the events before the place are taken, and come at or before the time; those that are left lead on from the machine `mid`
pub record HasTakenDue (Stands : Machine → Type 0) (gates app audio : ℕ) (text : List ℕ) (at : ℕ) (time : ℤ) (m : Machine) (es : List EventValue) : Type 0 where
  pub mid : Machine
  pub rest : List EventValue
  pub on : GoesOn Stands gates app audio text at mid rest
  pub taken : List EventValue
  pub split : es ≡ taken ++ rest
  pub due : due_by time es ≡ taken ++ due_by time rest
  pub machine : machine_after m (due_by time es) ≡ machine_after mid (due_by time rest)

pub due_begun : (Stands : Machine → Type 0) (gates app audio : ℕ) (text : List ℕ) (at : ℕ) (time : ℤ) (m : Machine) (es : List EventValue)
    → GoesOn Stands gates app audio text at m es → HasTakenDue Stands gates app audio text at time m es
due_begun Stands gates app audio text at time m es on = record {
  mid = m;
  rest = es;
  on = on;
  taken = [];
  split = refl;
  due = refl;
  machine = refl;
}

pub due_more : (Stands Stands' : Machine → Type 0) (gates app audio gates' app' audio' : ℕ) (text : List ℕ) (at next : ℕ) (time : ℤ) (m : Machine) (es : List EventValue)
    → HasTakenDue Stands gates app audio text at time m es → TakesNext Stands gates app audio text at time Stands' gates' app' audio' next
    → HasTakenDue Stands' gates' app' audio' text next time m es
unfolding machine_after
due_more Stands Stands' gates app audio gates' app' audio' text at next time m es has takes =
    let step = takes has.mid has.rest has.on in
    let e = step.0 in
    let rest = step.1 in
    let due : due_by time has.rest ≡ e ∷ due_by time rest = ap (due_by time) step.2 ∙ due_first time e rest step.3 in
    record {
      mid = step_of has.mid e;
      rest = rest;
      on = step.4;
      taken = has.taken ++ e ∷ [];
      split = has.split ∙ ap (λ (xs : List EventValue). has.taken ++ xs) step.2 ∙ sym (append_assoc has.taken (e ∷ []) rest);
      due = has.due ∙ ap (λ (xs : List EventValue). has.taken ++ xs) due ∙ sym (append_assoc has.taken (e ∷ []) (due_by time rest));
      machine = has.machine ∙ ap (machine_after has.mid) due;
    }

-- the lines that count grow fewer
pub due_fewer : (Stands Stands' : Machine → Type 0) (gates app audio gates' app' audio' : ℕ) (text : List ℕ) (at next : ℕ) (time : ℤ) (m : Machine) (es : List EventValue)
    → HasTakenDue Stands gates app audio text at time m es → TakesNext Stands gates app audio text at time Stands' gates' app' audio' next
    → left_at text next < left_at text at
due_fewer Stands Stands' gates app audio gates' app' audio' text at next time m es has takes =
    let step = takes has.mid has.rest has.on in
    fewer_left gates audio gates' audio' text at next has.rest step.1 step.0 has.on.says step.4.says step.2

-- all that are due are taken
pub due_all : (Stands Stands' : Machine → Type 0) (gates app audio gates' app' audio' : ℕ) (text : List ℕ) (at next : ℕ) (time : ℤ) (m : Machine) (es : List EventValue)
    → HasTakenDue Stands gates app audio text at time m es → TakesNone Stands gates app audio text at time Stands' gates' app' audio' next
    → (rest : List EventValue) × (es ≡ due_by time es ++ rest) × GoesOn Stands' gates' app' audio' text next (machine_after m (due_by time es)) rest
unfolding machine_after
due_all Stands Stands' gates app audio gates' app' audio' text at next time m es has takes =
    let none = takes has.mid has.rest has.on in
    let due : due_by time es ≡ has.taken = has.due ∙ ap (λ (xs : List EventValue). has.taken ++ xs) none.0 ∙ append-nil has.taken in
    let machine : machine_after m (due_by time es) ≡ has.mid = has.machine ∙ ap (machine_after has.mid) none.0 in (
      has.rest,
      has.split ∙ ap (λ (xs : List EventValue). xs ++ has.rest) (sym due),
      subst (λ (n : Machine). GoesOn Stands' gates' app' audio' text next n has.rest) (sym machine) none.1,
    )

-- ---- the messages of a block

-- what the law says of all parts
abbrev pub AreMessages : Type 0
AreMessages = (running : Bool) (parts : List Part) → All (λ event. IsMessage event.message) (all_events_of running parts)

pub block_messages : (law : AreMessages) (state : State) (running : Bool) (time : ℤ) (n : ℕ) (sent : List MidiEvent)
    → sent ≡ events_from state running time n → All (λ event. IsMessage event.message) sent
unfolding all_events_of
block_messages law state running time n sent is =
    All-same (λ event. IsMessage event.message) sent (events_from state running time n ++ []) (is ∙ sym (append-nil (events_from state running time n)))
    (law running (record { state = state; block = span time n } ∷ []))

-- of the blocks that are left the next one gives the first
next_block : (run : MidiRun) (running : Bool) (k left : ℕ) → 0 < left
    → all_events_of running (parts_from run k left)
    ≡ events_of (part_of run k).state running (part_of run k).block
    ++ all_events_of (running_after (part_of run k).state running (part_of run k).block) (parts_from run (k + 1) (left - 1))
unfolding all_events_of parts_from
next_block run running k left some =
    let more : left ≡ suc (left - 1) = omega arith in
    ap (λ (n : ℕ). all_events_of running (parts_from run k n)) more

same_span : {A : Type 0} (f : State → ℤ → ℕ → A) (state other : State) (time later : ℤ) (n m : ℕ) → state ≡ other → time ≡ later → n ≡ m
    → f state time n ≡ f other later m
same_span f state other time later n m states times numbers =
    ap (λ s. f s time n) states ∙ ap (λ t. f other t n) times ∙ ap (f other later) numbers

-- ---- the blocks so far

abbrev pub run_of : ConfigValue → ℤ → List EventValue → ℕ → MidiRun
run_of config now es lasting = record { config = config; now = now; events = es; length = lasting }

-- The first blocks are played, and their text is handed over. The events before the place are taken, and come at or before the next
-- block's begin. What the clock gives of the blocks that are left completes what all of them give.
pub record HasPlayed (lasting total : ℕ) (Stands : Machine → Type 0) (gates app audio : ℕ) (text : List ℕ) (at : ℕ) (start : ℤ) (blocks events : ℕ) (running : Bool) (before : Option (List ℕ)) (kept : List ℕ) (now : Option (List ℕ)) (kept' : List ℕ) : Type 0 where
  pub version : ℕ
  pub config : ConfigValue
  pub opening : ℤ
  pub es : List EventValue
  pub script : IsScriptOf text version config opening es
  pub taken : List EventValue
  pub rest : List EventValue
  pub split : es ≡ taken ++ rest
  pub on : GoesOn Stands gates app audio text at (replayed config opening taken) rest
  pub due : AreDue start taken
  pub begins : start ≡ opening +ℤ pos (blocks * lasting)
  pub left : ℕ
  pub count : blocks + left ≡ total
  pub played : List MidiEvent
  pub so_many : events ≡ length played
  pub whole : played ++ all_events_of running (parts_from (run_of config opening es lasting) blocks left)
      ≡ midi_events_of (run_of config opening es lasting) total
  pub way : HandsOver (flat_map midi_line_of played) before kept now kept'

pub played_none : (few : AreFew) (lasting total : ℕ) (Stands : Machine → Type 0) (gates app audio version : ℕ) (text : List ℕ) (first : ℕ) (start : ℤ) (running : Bool) (told : Option (List ℕ)) (kept : List ℕ)
    → (is : IsOpened Stands gates app audio version text first) → is.now ≡ start → length text ≤ 1_073_741_824 → running ≡ false
    → HasPlayed lasting total Stands gates app audio text first start 0 0 running told kept told kept
unfolding machine_after
played_none few lasting total Stands gates app audio version text first start running told kept is same short still = record {
  version = version;
  config = is.config;
  opening = is.now;
  es = is.es;
  script = is.script;
  taken = [];
  rest = is.es;
  split = refl;
  on = opened_goes_on few Stands gates app audio version text first is short;
  due = tt;
  begins = omega (arith, ints, same);
  left = total;
  count = omega arith;
  played = [];
  so_many = refl;
  whole = ap (λ b. all_events_of b (parts_from (run_of is.config is.now is.es lasting) 0 total)) still;
  way = hands_none told kept;
}

-- what the node goes on with
pub played_says : (lasting total : ℕ) (Stands : Machine → Type 0) (gates app audio : ℕ) (text : List ℕ) (at : ℕ) (start : ℤ) (blocks events : ℕ) (running : Bool) (before : Option (List ℕ)) (kept : List ℕ) (now : Option (List ℕ)) (kept' : List ℕ)
    → HasPlayed lasting total Stands gates app audio text at start blocks events running before kept now kept'
    → (m : Machine) × (es : List EventValue) × GoesOn Stands gates app audio text at m es
played_says lasting total Stands gates app audio text at start blocks events running before kept now kept' has =
    (replayed has.config has.opening has.taken, has.rest, has.on)

-- ---- one block

-- The events that are due are taken, and the next block gives these events, which are the next of all that are given. The clock runs after
-- them, or doesn't.
pub record IsNext (lasting total : ℕ) (Stands : Machine → Type 0) (gates app audio : ℕ) (text : List ℕ) (at : ℕ) (start : ℤ) (blocks events : ℕ) (sent : List MidiEvent) (running : Bool) (before : Option (List ℕ)) (kept : List ℕ) (now : Option (List ℕ)) (kept' : List ℕ) : Type 0 where
  pub more : blocks < total
  pub was : Bool
  pub has : HasPlayed lasting total Stands gates app audio text at start blocks events was before kept now kept'
  pub whole : has.played ++ (sent ++ all_events_of running (parts_from (run_of has.config has.opening has.es lasting) (blocks + 1) (has.left - 1)))
      ≡ midi_events_of (run_of has.config has.opening has.es lasting) total

pub next_played : (machines : MachineGoesOn) (lasting total : ℕ) (Stands Stands' : Machine → Type 0) (gates app audio gates' app' audio' : ℕ) (text : List ℕ) (at next : ℕ) (start : ℤ) (blocks events : ℕ) (running after : Bool) (before : Option (List ℕ)) (kept : List ℕ) (now : Option (List ℕ)) (kept' : List ℕ) (state : State) (sent : List MidiEvent) (time : ℤ) (n : ℕ)
    → HasPlayed lasting total Stands gates app audio text at start blocks events running before kept now kept'
    → TakesDue Stands gates app audio text at start Stands' gates' app' audio' next
    → ((m : Machine) → Stands' m → state ≡ m.published)
    → sent ≡ events_from state running time n → after ≡ running_from state running time n
    → blocks < total → time ≡ start → n ≡ lasting
    → IsNext lasting total Stands' gates' app' audio' text next start blocks events sent after before kept now kept'
next_played machines lasting total Stands Stands' gates app audio gates' app' audio' text at next start blocks events running after before kept now kept' state sent time n has takes shows sent_are runs more time_is length_is =
    let run = run_of has.config has.opening has.es lasting in
    let step = takes (replayed has.config has.opening has.taken) has.rest has.on in
    let due : List EventValue = due_by start has.rest in
    let on : GoesOn Stands' gates' app' audio' text next (replayed has.config has.opening (has.taken ++ due)) step.0 =
    subst (λ (m : Machine). GoesOn Stands' gates' app' audio' text next m step.0) (sym (machines (opened has.config has.opening) has.taken due)) step.2 in
    let all : due_by start has.es ≡ has.taken ++ due = ap (due_by start) has.split ∙ due_behind start has.taken has.rest has.due in
    let state_is : state ≡ (part_of run blocks).state =
    shows (replayed has.config has.opening (has.taken ++ due)) on.stands
    ∙ ap (λ (es : List EventValue). (replayed has.config has.opening es).published) (sym all)
    ∙ ap (λ (z : ℤ). (replayed has.config has.opening (due_by z has.es)).published) has.begins in
    let sent_is : sent ≡ events_of (part_of run blocks).state running (part_of run blocks).block =
    sent_are ∙ same_span {A = List MidiEvent} (λ s z k. events_from s running z k) state (part_of run blocks).state time (begin_of run blocks) n lasting state_is (time_is ∙ has.begins) length_is in
    let after_is : after ≡ running_after (part_of run blocks).state running (part_of run blocks).block =
    runs ∙ same_span {A = Bool} (λ s z k. running_from s running z k) state (part_of run blocks).state time (begin_of run blocks) n lasting state_is (time_is ∙ has.begins) length_is in
    let later : Bool → List MidiEvent = λ b. all_events_of b (parts_from run (blocks + 1) (has.left - 1)) in
    record {
      more = more;
      was = running;
      has = record {
        version = has.version;
        config = has.config;
        opening = has.opening;
        es = has.es;
        script = has.script;
        taken = has.taken ++ due;
        rest = step.0;
        split = has.split ∙ ap (λ (xs : List EventValue). has.taken ++ xs) step.1 ∙ sym (append_assoc has.taken due step.0);
        on = on;
        due = due_both start has.taken due has.due (are_due start has.rest);
        begins = has.begins;
        left = has.left;
        count = has.count;
        played = has.played;
        so_many = has.so_many;
        whole = has.whole;
        way = has.way;
      };
      whole = ap (λ (xs : List MidiEvent). has.played ++ (xs ++ later after)) sent_is
          ∙ ap (λ (b : Bool). has.played ++ (events_of (part_of run blocks).state running (part_of run blocks).block ++ later b)) after_is
          ∙ ap (λ (xs : List MidiEvent). has.played ++ xs) (sym (next_block run running blocks has.left (omega (arith, has.count, more))))
          ∙ has.whole;
    }

-- one block more
pub played_more : (lasting total : ℕ) (Stands : Machine → Type 0) (gates app audio : ℕ) (text : List ℕ) (at : ℕ) (start later : ℤ) (blocks events more : ℕ) (sent : List MidiEvent) (running : Bool) (before : Option (List ℕ)) (kept : List ℕ) (now : Option (List ℕ)) (kept' : List ℕ) (after : Option (List ℕ)) (kept'' : List ℕ)
    → IsNext lasting total Stands gates app audio text at start blocks events sent running before kept now kept'
    → HandsOver (flat_map midi_line_of sent) now kept' after kept'' → later ≡ start +ℤ pos lasting → more ≡ events + length sent
    → HasPlayed lasting total Stands gates app audio text at later (blocks + 1) more running before kept after kept''
played_more lasting total Stands gates app audio text at start later blocks events more sent running before kept now kept' after kept'' next over later_is more_is =
    let has = next.has in
    let product : (blocks + 1) * lasting ≡ blocks * lasting + lasting = omega arith in
    record {
      version = has.version;
      config = has.config;
      opening = has.opening;
      es = has.es;
      script = has.script;
      taken = has.taken;
      rest = has.rest;
      split = has.split;
      on = has.on;
      due = due_later start later has.taken (omega (arith, ints, later_is)) has.due;
      begins = omega (arith, ints, later_is, has.begins, product);
      left = has.left - 1;
      count = omega (arith, has.count, next.more);
      played = has.played ++ sent;
      so_many = omega (arith, more_is, has.so_many, length-append has.played sent);
      whole = append_assoc has.played sent (all_events_of running (parts_from (run_of has.config has.opening has.es lasting) (blocks + 1) (has.left - 1))) ∙ next.whole;
      way = rw (flat_map-append midi_line_of has.played sent) (hands_both before now after kept kept' kept'' _ _ has.way over);
    }

regroup : (a b c d : List ℕ) → (a ++ b) ++ (c ++ d) ≡ (a ++ (b ++ c)) ++ d
regroup a b c d = simp append_assoc

-- the sink failed at a block
pub played_part : (lasting total : ℕ) (Stands : Machine → Type 0) (gates app audio : ℕ) (text : List ℕ) (at : ℕ) (start : ℤ) (blocks events : ℕ) (sent : List MidiEvent) (running : Bool) (before : Option (List ℕ)) (kept : List ℕ) (now : Option (List ℕ)) (kept' : List ℕ) (after : Option (List ℕ))
    → IsNext lasting total Stands gates app audio text at start blocks events sent running before kept now kept'
    → HandsPart (flat_map midi_line_of sent) now kept' after
    → (output : List ℕ) × GivesMidi lasting total text output × HandsPart output before kept after
unfolding midi_text_of
played_part lasting total Stands gates app audio text at start blocks events sent running before kept now kept' after next part =
    let has = next.has in
    let run = run_of has.config has.opening has.es lasting in
    let later : List MidiEvent = all_events_of running (parts_from run (blocks + 1) (has.left - 1)) in
    let last : List ℕ = blocks_line_of total (length (midi_events_of run total)) in
    let one : List ℕ = flat_map midi_line_of has.played in
    let two : List ℕ = flat_map midi_line_of sent in
    let three : List ℕ = flat_map midi_line_of later in
    let all : flat_map midi_line_of (midi_events_of run total) ≡ one ++ (two ++ three) =
    ap (flat_map midi_line_of) (sym next.whole)
    ∙ flat_map-append midi_line_of has.played (sent ++ later)
    ∙ ap (λ (xs : List ℕ). one ++ xs) (flat_map-append midi_line_of sent later) in
    let whole : (one ++ two) ++ (three ++ last) ≡ midi_text_of run total = regroup one two three last ∙ ap (λ (xs : List ℕ). xs ++ last) (sym all) in
    let here : HandsPart (one ++ two) before kept after = part_after before now after kept kept' one two has.way part in
    let more : HandsPart ((one ++ two) ++ (three ++ last)) before kept after = part_of_more before after kept (one ++ two) (three ++ last) here in (
      midi_text_of run total,
      (has.version, has.config, has.opening, has.es, has.script, refl),
      subst (λ (bytes : List ℕ). HandsPart bytes before kept after) whole more,
    )

-- ---- all blocks

-- what was handed over, and the last line, are the text
all_text : (lasting total : ℕ) (Stands : Machine → Type 0) (gates app audio : ℕ) (text : List ℕ) (at : ℕ) (start : ℤ) (blocks events : ℕ) (running : Bool) (before : Option (List ℕ)) (kept : List ℕ) (now : Option (List ℕ)) (kept' : List ℕ)
    → (has : HasPlayed lasting total Stands gates app audio text at start blocks events running before kept now kept') → total ≤ blocks
    → flat_map midi_line_of has.played ++ blocks_line_of blocks events ≡ midi_text_of (run_of has.config has.opening has.es lasting) total
unfolding midi_text_of all_events_of parts_from
all_text lasting total Stands gates app audio text at start blocks events running before kept now kept' has enough =
    let run = run_of has.config has.opening has.es lasting in
    let none : has.left ≡ 0 = omega (arith, has.count) in
    let blocks_are : blocks ≡ total = omega (arith, has.count) in
    let played : has.played ≡ midi_events_of run total =
    sym (append-nil has.played)
    ∙ ap (λ (n : ℕ). has.played ++ all_events_of running (parts_from run blocks n)) (sym none)
    ∙ has.whole in
    ap (λ (xs : List MidiEvent). flat_map midi_line_of xs ++ blocks_line_of blocks events) played
    ∙ ap (λ (n : ℕ). flat_map midi_line_of (midi_events_of run total) ++ blocks_line_of n events) blocks_are
    ∙ ap (λ (n : ℕ). flat_map midi_line_of (midi_events_of run total) ++ blocks_line_of total n) (has.so_many ∙ ap length played)

-- the last line is handed over, or the sink failed at it
pub played_over : {T E : Type 0} (result : Result T E) (lasting total : ℕ) (Stands : Machine → Type 0) (gates app audio : ℕ) (text : List ℕ) (at : ℕ) (start : ℤ) (blocks events : ℕ) (running : Bool) (before : Option (List ℕ)) (kept : List ℕ) (now : Option (List ℕ)) (kept' : List ℕ) (after : Option (List ℕ)) (kept'' : List ℕ)
    → HasPlayed lasting total Stands gates app audio text at start blocks events running before kept now kept' → total ≤ blocks
    → OnOk result (HandsOver (blocks_line_of blocks events) now kept' after kept'')
    → OnOk result ((output : List ℕ) × GivesMidi lasting total text output × HandsOver output before kept after kept'')
played_over (Ok value) lasting total Stands gates app audio text at start blocks events running before kept now kept' after kept'' has enough over = (
  midi_text_of (run_of has.config has.opening has.es lasting) total,
  (has.version, has.config, has.opening, has.es, has.script, refl),
  subst (λ (bytes : List ℕ). HandsOver bytes before kept after kept'')
      (all_text lasting total Stands gates app audio text at start blocks events running before kept now kept' has enough)
      (hands_both before now after kept kept' kept'' (flat_map midi_line_of has.played) (blocks_line_of blocks events) has.way over),
)
played_over (Err failure) lasting total Stands gates app audio text at start blocks events running before kept now kept' after kept'' has enough over = tt

pub played_cut : {T E : Type 0} (result : Result T E) (lasting total : ℕ) (Stands : Machine → Type 0) (gates app audio : ℕ) (text : List ℕ) (at : ℕ) (start : ℤ) (blocks events : ℕ) (running : Bool) (before : Option (List ℕ)) (kept : List ℕ) (now : Option (List ℕ)) (kept' : List ℕ) (after : Option (List ℕ))
    → HasPlayed lasting total Stands gates app audio text at start blocks events running before kept now kept' → total ≤ blocks
    → OnErr result (HandsPart (blocks_line_of blocks events) now kept' after)
    → OnErr result ((output : List ℕ) × GivesMidi lasting total text output × HandsPart output before kept after)
played_cut (Ok value) lasting total Stands gates app audio text at start blocks events running before kept now kept' after has enough part = tt
played_cut (Err failure) lasting total Stands gates app audio text at start blocks events running before kept now kept' after has enough part = (
  midi_text_of (run_of has.config has.opening has.es lasting) total,
  (has.version, has.config, has.opening, has.es, has.script, refl),
  subst (λ (bytes : List ℕ). HandsPart bytes before kept after)
      (all_text lasting total Stands gates app audio text at start blocks events running before kept now kept' has enough)
      (part_after before now after kept kept' (flat_map midi_line_of has.played) (blocks_line_of blocks events) has.way part),
)
