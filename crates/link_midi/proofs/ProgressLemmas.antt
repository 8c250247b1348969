-- How the events of a block are found: up to the next pulse, at it, and to the end.
use Rattle.std.proofs.Common.{◌≡◌, ℕ, suc, ◌+◌, ◌≤◌, ℤ, pos, ◌+ℤ◌, ◌-ℤ◌, ◌<ℤ◌, ◌≤ℤ◌, unsigned_abs, Bool, true, false, ◌&&◌, ◌||◌, cond, List, [], ◌∷◌, ◌++◌, count_by, refl, ap, sym, ◌∙◌, arith, append_assoc, append-nil}
use Rattle.std.proofs.lemmas.Int.{ints}
use Rattle.std.proofs.lemmas.Bool.{false≢true, and_parts, or_parts}
use Rattle.lk_base.specs.Timeline.{IsTidy}
use Rattle.client_state.specs.declared.state.State.{State}
use Rattle.link_midi.specs.Pulse.{pulse_of, pulses_at}
use Rattle.link_midi.specs.Events.{wants_at, event, stops_at, events_at, running_at, events_from, running_from}
use Rattle.link_midi.specs.Messages.{is_clock, is_other}
use Rattle.link_midi.specs.Progress.{events_between, running_between, IsPulseTime, HasEvents}
use Rattle.link_midi.specs.declared.message.MidiMessage.TheVariants.{Clock, Stop}
use Rattle.link_midi.specs.declared.message.MidiEvent.{MidiEvent}
use Rattle.link_midi.proofs.PulseLemmas.{sounds_at, pulses-most}
use Rattle.link_midi.proofs.EventLemmas.{events_cut, running_cut, stopping_events, stopping_running, is_on_sixteenth, opening, begins, running_at-sounding, wants_later, quiet_from}
use Rattle.link_midi.proofs.CountLemmas.{count-append, stop_counts, pulse_counts}

-- ---- without a pulse

pub quiet_between : (state : State) (running : Bool) (p from to end : ℤ) → IsTidy state.timeline → (running ≡ true → wants_at state from ≡ true)
    → p ≡ pulse_of state.timeline (from -ℤ pos 1) → pulse_of state.timeline (to -ℤ pos 1) ≡ p → from ≤ℤ to → to ≤ℤ end
    → (events_between state running from end ≡ events_between state running to end) × (running_between state running from end ≡ running_between state running to end)
unfolding events_between running_between
quiet_between state running p from to end tidy wanted now last le order =
    let n = unsigned_abs (to -ℤ from) in
    let m = unsigned_abs (end -ℤ to) in
    let whole : unsigned_abs (end -ℤ from) ≡ n + m = omega (arith, ints) in
    let to_is : from +ℤ pos n ≡ to = omega (arith, ints) in
    let last_is : from +ℤ pos n -ℤ pos 1 ≡ to -ℤ pos 1 = omega (arith, ints) in
    let quiet = quiet_from state running p from n tidy wanted now (ap (pulse_of state.timeline) last_is ∙ last) in (
      events_cut state running from n m (unsigned_abs (end -ℤ from)) whole
          ∙ ap (λ xs. xs ++ events_from state (running_from state running from n) (from +ℤ pos n) m) (quiet.0)
          ∙ ap (λ b. events_from state b (from +ℤ pos n) m) (quiet.1)
          ∙ ap (λ t. events_from state running t m) to_is,
      running_cut state running from n m (unsigned_abs (end -ℤ from)) whole
          ∙ ap (λ b. running_from state b (from +ℤ pos n) m) (quiet.1)
          ∙ ap (λ t. running_from state running t m) to_is,
    )

-- ---- one microsecond more
pub step_between : (state : State) (running : Bool) (at end : ℤ) → at <ℤ end
    → (events_between state running at end ≡ events_at state running at ++ events_between state (running_at state running at) (at +ℤ pos 1) end)
    × (running_between state running at end ≡ running_between state (running_at state running at) (at +ℤ pos 1) end)
unfolding events_between running_between events_from running_from
step_between state running at end lt =
    let whole : unsigned_abs (end -ℤ at) ≡ suc (unsigned_abs (end -ℤ (at +ℤ pos 1))) = omega (arith, ints) in
    (ap (events_from state running at) whole, ap (running_from state running at) whole)

-- ---- the stop that may come first
pub stop_between : (state : State) (was : Bool) (start end : ℤ) → start <ℤ end
    → (events_between state was start end ≡ cond (stops_at state was start) (event start Stop ∷ []) [] ++ events_between state (was && wants_at state start) start end)
    × (running_between state was start end ≡ running_between state (was && wants_at state start) start end)
unfolding events_at running_at
stop_between state was start end lt =
    let w = wants_at state start in
    let p = pulses_at state.timeline start in
    let x = is_on_sixteenth state start in
    let next = running_at state was start in
    let step = step_between state was start end lt in
    let again = step_between state (was && w) start end lt in
    let stop = cond (stops_at state was start) (event start Stop ∷ []) [] in
    let same : running_at state was start ≡ running_at state (was && w) start = stopping_running was w p x in
    let sent : events_at state was start ≡ stop ++ events_at state (was && w) start = stopping_events was w p x (event start Stop) (opening state start) (event start Clock ∷ []) in (
      step.0
          ∙ ap (λ xs. xs ++ events_between state next (start +ℤ pos 1) end) sent
          ∙ append_assoc stop (events_at state (was && w) start) (events_between state next (start +ℤ pos 1) end)
          ∙ ap (λ b. stop ++ (events_at state (was && w) start ++ events_between state b (start +ℤ pos 1) end)) same
          ∙ ap (λ xs. stop ++ xs) (sym again.0),
      step.1 ∙ ap (λ b. running_between state b (start +ℤ pos 1) end) same ∙ sym again.1,
    )

-- ---- the events so far

pub has_opened : (state : State) (was running : Bool) (start end pulse : ℤ) (events : List MidiEvent) → start <ℤ end → running ≡ (was && wants_at state start)
    → pulse ≡ pulse_of state.timeline (start -ℤ pos 1) → events ≡ cond (stops_at state was start) (event start Stop ∷ []) []
    → HasEvents state was start end running pulse start events
has_opened state was running start end pulse events lt runs_are now e =
    let began = stop_between state was start end lt in
    let counts = stop_counts (stops_at state was start) start in
    let clocks = ap (count_by is_clock) e in
    let others = ap (count_by is_other) e in
    record {
      later = omega (arith, ints);
      order = omega (arith, ints);
      last = now;
      wanted = λ runs. (and_parts was (wants_at state start) (sym runs_are ∙ runs)).1;
      clocks = omega (arith, ints, counts.0);
      others = omega (arith, counts.1);
      begun = λ none. omega (arith, counts.1);
      found = began.0 ∙ ap (λ b. cond (stops_at state was start) (event start Stop ∷ []) [] ++ events_between state b start end) (sym runs_are) ∙ ap (λ xs. xs ++ events_between state running start end) (sym e);
      runs = began.1 ∙ ap (λ b. running_between state b start end) (sym runs_are);
    }

-- it runs then, or began
runs_wanted : (state : State) (running : Bool) (time : ℤ) → (running ≡ true → wants_at state time ≡ true) → (running || begins state running time) ≡ true → wants_at state time ≡ true
runs_wanted state true time wanted e = wanted refl
runs_wanted state false time wanted e = (and_parts (wants_at state time) (is_on_sixteenth state time) e).0

running_before : (b : Bool) (others added : ℕ) (running : Bool) → others ≤ 3 → (running ≡ false → others ≤ 1) → added ≤ 2 → (b ≡ false → added ≡ 0) → (running ≡ true → b ≡ false) → others + added ≤ 3
running_before b others added true most begun few none closed = let zero_more = none (closed refl) in omega arith
running_before b others added false most begun few none closed = let low = begun refl in omega arith

begins_closed : (state : State) (running : Bool) (time : ℤ) → running ≡ true → begins state running time ≡ false
begins_closed state true time e = refl
begins_closed state false time e = absurd (false≢true e)

pub has_more : (state : State) (was running : Bool) (start end pulse from at next_pulse : ℤ) (events : List MidiEvent) → IsTidy state.timeline
    → HasEvents state was start end running pulse from events → next_pulse ≡ pulse +ℤ pos 1 → IsPulseTime state.timeline next_pulse from end at
    → HasEvents state was start end (running_at state running at) next_pulse (at +ℤ pos 1) (events ++ events_at state running at)
has_more state was running start end pulse from at next_pulse events tidy so_far next found =
    let tl = state.timeline in
    let not_before = found.not_before in
    let inside = found.inside in
    let later = so_far.later in
    let before : pulse_of tl (at -ℤ pos 1) ≡ pulse = omega (arith, ints, found.before) in
    let wanted : running ≡ true → wants_at state at ≡ true = λ runs. wants_later state from at not_before (so_far.wanted runs) in
    let sounds = sounds_at tl at next_pulse found.there found.before in
    let quiet = quiet_between state running pulse from at end tidy so_far.wanted so_far.last before not_before (omega (arith, ints)) in
    let step = step_between state running at end inside in
    let runs = running_at-sounding state running at wanted sounds in
    let counts = pulse_counts state running at wanted sounds in
    let clocks = count-append is_clock events (events_at state running at) in
    let others = count-append is_other events (events_at state running at) in
    let back : at +ℤ pos 1 -ℤ pos 1 ≡ at = omega (arith, ints) in
    let most : count_by is_other events + count_by is_other (events_at state running at) ≤ 3 =
    running_before (begins state running at) (count_by is_other events) (count_by is_other (events_at state running at)) running so_far.others so_far.begun counts.1 counts.2 (begins_closed state running at) in
    let tail = events_between state (running_at state running at) (at +ℤ pos 1) end in
    record {
      later = omega (arith, ints);
      order = omega (arith, ints);
      last = sym (ap (pulse_of tl) back ∙ found.there);
      wanted = λ goes. wants_later state at (at +ℤ pos 1) (omega (arith, ints)) (runs_wanted state running at wanted (sym runs ∙ goes));
      clocks = omega (arith, ints, so_far.clocks, counts.0);
      others = omega arith;
      begun = λ none.
          let closed = or_parts running (begins state running at) (sym runs ∙ none) in
          omega (arith, so_far.begun closed.0, counts.2 closed.1);
      found =
          so_far.found ∙ ap (λ xs. events ++ xs) (quiet.0 ∙ step.0)
          ∙ sym (append_assoc events (events_at state running at) tail);
      runs = so_far.runs ∙ quiet.1 ∙ step.1;
    }

between_none : (state : State) (running : Bool) (end : ℤ) → (events_between state running end end ≡ []) × (running_between state running end end ≡ running)
unfolding events_between running_between events_from running_from
between_none state running end =
    let none : unsigned_abs (end -ℤ end) ≡ 0 = omega (arith, ints) in
    (ap (events_from state running end) none, ap (running_from state running end) none)

pub has_all : (state : State) (was running : Bool) (start end pulse from : ℤ) (events : List MidiEvent) → IsTidy state.timeline
    → HasEvents state was start end running pulse from events → pulse_of state.timeline (end -ℤ pos 1) ≡ pulse
    → (events ≡ events_between state was start end) × (running ≡ running_between state was start end)
has_all state was running start end pulse from events tidy so_far last =
    let quiet = quiet_between state running pulse from end end tidy so_far.wanted so_far.last last so_far.order (omega (arith, ints)) in
    let none = between_none state running end in (
      sym (so_far.found ∙ ap (λ xs. events ++ xs) (quiet.0 ∙ none.0) ∙ append-nil events),
      sym (so_far.runs ∙ quiet.1 ∙ none.1),
    )

pub has_few : (state : State) (was running : Bool) (start end pulse from : ℤ) (events : List MidiEvent) → IsTidy state.timeline → end ≤ℤ (start +ℤ pos 1_000_000)
    → HasEvents state was start end running pulse from events → count_by is_clock events ≤ 400
has_few state was running start end pulse from events tidy short so_far =
    let order = so_far.order in
    let most = pulses-most state.timeline (start -ℤ pos 1) (from -ℤ pos 1) tidy (omega (arith, ints)) in
    omega (arith, ints, so_far.last, so_far.clocks)

-- where a pulse is still to come there is room for it
pub has_fewer : (state : State) (was running : Bool) (start end pulse from at next_pulse : ℤ) (events : List MidiEvent) → IsTidy state.timeline → end ≤ℤ (start +ℤ pos 1_000_000)
    → HasEvents state was start end running pulse from events → next_pulse ≡ pulse +ℤ pos 1 → IsPulseTime state.timeline next_pulse from end at → count_by is_clock events ≤ 399
has_fewer state was running start end pulse from at next_pulse events tidy short so_far next found =
    let inside = found.inside in
    let most = pulses-most state.timeline (start -ℤ pos 1) at tidy (omega (arith, ints)) in
    omega (arith, ints, so_far.clocks, found.there)

pub block_events : (state : State) (was : Bool) (start len end : ℤ) → end ≡ start +ℤ len
    → (events_between state was start end ≡ events_from state was start (unsigned_abs len)) × (running_between state was start end ≡ running_from state was start (unsigned_abs len))
unfolding events_between running_between
block_events state was start len end e =
    let same : unsigned_abs (end -ℤ start) ≡ unsigned_abs len = omega (arith, ints) in
    (ap (events_from state was start) same, ap (running_from state was start) same)
