-- The events of spans of time: cut in two, in one microsecond by its tests, and without a pulse.
use Rattle.std.proofs.Common.{◌≡◌, ℕ, zero, suc, ◌+◌, ℤ, pos, ◌+ℤ◌, ◌-ℤ◌, ◌≤ℤ◌, Bool, true, false, not, ◌&&◌, ◌||◌, cond, int_le, List, [], ◌∷◌, ◌++◌, refl, ap, sym, ◌∙◌, arith, append_assoc}
use Rattle.std.proofs.lemmas.Int.{ints}
use Rattle.std.proofs.lemmas.Bool.{false≢true}
use Rattle.lk_base.specs.Timeline.{IsTidy}
use Rattle.client_state.specs.declared.state.State.{State}
use Rattle.link_midi.specs.Pulse.{pulse_of, pulses_at}
use Rattle.link_midi.specs.Events.{wants_at, event, is_sixteenth, position_of, opening_at, events_at, running_at, events_from, running_from}
use Rattle.link_midi.specs.declared.message.MidiMessage.TheVariants.{Clock, Stop}
use Rattle.link_midi.specs.declared.message.MidiEvent.{MidiEvent}
use Rattle.link_midi.proofs.PulseLemmas.{pulse-le, quiet_at}

-- ---- cut in two

pub events_cut : (state : State) (running : Bool) (time : ℤ) (n m k : ℕ) → k ≡ n + m
    → events_from state running time k ≡ events_from state running time n ++ events_from state (running_from state running time n) (time +ℤ pos n) m
unfolding events_from running_from
events_cut state running time zero m k e =
    let same : k ≡ m = omega arith in
    let here : time ≡ time +ℤ pos 0 = omega (arith, ints) in
    ap (λ j. events_from state running time j) same ∙ ap (λ t. events_from state running t m) here
events_cut state running time (suc n) m k e =
    let more : k ≡ suc (n + m) = omega arith in
    let next = running_at state running time in
    let along : time +ℤ pos 1 +ℤ pos n ≡ time +ℤ pos (suc n) = omega (arith, ints) in
    ap (events_from state running time) more
    ∙ ap (λ xs. events_at state running time ++ xs) (events_cut state next (time +ℤ pos 1) n m (n + m) refl)
    ∙ ap (λ t. events_at state running time ++ (events_from state next (time +ℤ pos 1) n ++ events_from state (running_from state next (time +ℤ pos 1) n) t m)) along
    ∙ sym (append_assoc (events_at state running time) (events_from state next (time +ℤ pos 1) n) (events_from state (running_from state next (time +ℤ pos 1) n) (time +ℤ pos (suc n)) m))

pub running_cut : (state : State) (running : Bool) (time : ℤ) (n m k : ℕ) → k ≡ n + m
    → running_from state running time k ≡ running_from state (running_from state running time n) (time +ℤ pos n) m
unfolding running_from
running_cut state running time zero m k e =
    let same : k ≡ m = omega arith in
    let here : time ≡ time +ℤ pos 0 = omega (arith, ints) in
    ap (λ j. running_from state running time j) same ∙ ap (λ t. running_from state running t m) here
running_cut state running time (suc n) m k e =
    let more : k ≡ suc (n + m) = omega arith in
    let next = running_at state running time in
    let along : time +ℤ pos 1 +ℤ pos n ≡ time +ℤ pos (suc n) = omega (arith, ints) in
    ap (running_from state running time) more
    ∙ running_cut state next (time +ℤ pos 1) n m (n + m) refl
    ∙ ap (λ t. running_from state (running_from state next (time +ℤ pos 1) n) t m) along

-- ---- one microsecond, by its tests

quiet_events : (running w p x : Bool) (a b c : List MidiEvent) → (running ≡ true → w ≡ true) → p ≡ false
    → cond (running && not w) a [] ++ cond (not running && w && p && x) b [] ++ cond p c [] ≡ []
quiet_events true true false x a b c h e = refl
quiet_events true false false x a b c h e = absurd (false≢true (h refl))
quiet_events false true false x a b c h e = refl
quiet_events false false false x a b c h e = refl
quiet_events running w true x a b c h e = absurd (false≢true (sym e))

quiet_running : (running w p x : Bool) → (running ≡ true → w ≡ true) → p ≡ false → ((running && w) || (not running && w && p && x)) ≡ running
quiet_running true true false x h e = refl
quiet_running true false false x h e = absurd (false≢true (h refl))
quiet_running false true false x h e = refl
quiet_running false false false x h e = refl
quiet_running running w true x h e = absurd (false≢true (sym e))

sounding_events : (running w p x : Bool) (a b c : List MidiEvent) → (running ≡ true → w ≡ true) → p ≡ true
    → cond (running && not w) a [] ++ cond (not running && w && p && x) b [] ++ cond p c [] ≡ cond (not running && w && x) b [] ++ c
sounding_events true true true x a b c h e = refl
sounding_events true false true x a b c h e = absurd (false≢true (h refl))
sounding_events false true true x a b c h e = refl
sounding_events false false true x a b c h e = refl
sounding_events running w false x a b c h e = absurd (false≢true e)

sounding_running : (running w p x : Bool) → (running ≡ true → w ≡ true) → p ≡ true → ((running && w) || (not running && w && p && x)) ≡ (running || (not running && w && x))
sounding_running true true true x h e = refl
sounding_running true false true x h e = absurd (false≢true (h refl))
sounding_running false true true x h e = refl
sounding_running false false true x h e = refl
sounding_running running w false x h e = absurd (false≢true e)

-- it stops first, and goes on as if it hadn't run
pub stopping_events : (was w p x : Bool) (a : MidiEvent) (b c : List MidiEvent)
    → cond (was && not w) (a ∷ []) [] ++ cond (not was && w && p && x) b [] ++ cond p c []
    ≡ cond (was && not w) (a ∷ []) [] ++ (cond ((was && w) && not w) (a ∷ []) [] ++ cond (not (was && w) && w && p && x) b [] ++ cond p c [])
stopping_events true true p x a b c = refl
stopping_events true false p x a b c = refl
stopping_events false true p x a b c = refl
stopping_events false false p x a b c = refl

pub stopping_running : (was w p x : Bool) → ((was && w) || (not was && w && p && x)) ≡ (((was && w) && w) || (not (was && w) && w && p && x))
stopping_running true true p x = refl
stopping_running true false p x = refl
stopping_running false true p x = refl
stopping_running false false p x = refl

-- ---- one microsecond of a state

abbrev pub is_on_sixteenth : State → ℤ → Bool
is_on_sixteenth state time = is_sixteenth (pulse_of state.timeline time)

abbrev pub opening : State → ℤ → List MidiEvent
opening state time = opening_at time (position_of (pulse_of state.timeline time))

events_at-quiet : (state : State) (running : Bool) (time : ℤ) → (running ≡ true → wants_at state time ≡ true) → pulses_at state.timeline time ≡ false → events_at state running time ≡ []
unfolding events_at
events_at-quiet state running time wanted quiet =
    quiet_events running (wants_at state time) (pulses_at state.timeline time) (is_on_sixteenth state time) (event time Stop ∷ []) (opening state time) (event time Clock ∷ []) wanted quiet

running_at-quiet : (state : State) (running : Bool) (time : ℤ) → (running ≡ true → wants_at state time ≡ true) → pulses_at state.timeline time ≡ false → running_at state running time ≡ running
unfolding running_at
running_at-quiet state running time wanted quiet =
    quiet_running running (wants_at state time) (pulses_at state.timeline time) (is_on_sixteenth state time) wanted quiet

-- it begins, if the time pulses
abbrev pub begins : State → Bool → ℤ → Bool
begins state running time = not running && wants_at state time && is_on_sixteenth state time

pub events_at-sounding : (state : State) (running : Bool) (time : ℤ) → (running ≡ true → wants_at state time ≡ true) → pulses_at state.timeline time ≡ true
    → events_at state running time ≡ cond (begins state running time) (opening state time) [] ++ event time Clock ∷ []
unfolding events_at
events_at-sounding state running time wanted sounds =
    sounding_events running (wants_at state time) (pulses_at state.timeline time) (is_on_sixteenth state time) (event time Stop ∷ []) (opening state time) (event time Clock ∷ []) wanted sounds

pub running_at-sounding : (state : State) (running : Bool) (time : ℤ) → (running ≡ true → wants_at state time ≡ true) → pulses_at state.timeline time ≡ true
    → running_at state running time ≡ (running || begins state running time)
unfolding running_at
running_at-sounding state running time wanted sounds =
    sounding_running running (wants_at state time) (pulses_at state.timeline time) (is_on_sixteenth state time) wanted sounds

-- ---- without a pulse

wants_by : (playing : Bool) (start a b : ℤ) → a ≤ℤ b → (playing && int_le start a) ≡ true → (playing && int_le start b) ≡ true
wants_by true start a b le e = let later : true ≡ int_le start b = omega (arith, ints) in sym later
wants_by false start a b le e = absurd (false≢true e)

pub wants_later : (state : State) (a b : ℤ) → a ≤ℤ b → wants_at state a ≡ true → wants_at state b ≡ true
unfolding wants_at
wants_later state a b le e = wants_by state.start.playing state.start.time a b le e

pub quiet_from : (state : State) (running : Bool) (p time : ℤ) (n : ℕ) → IsTidy state.timeline → (running ≡ true → wants_at state time ≡ true)
    → p ≡ pulse_of state.timeline (time -ℤ pos 1) → pulse_of state.timeline (time +ℤ pos n -ℤ pos 1) ≡ p
    → (events_from state running time n ≡ []) × (running_from state running time n ≡ running)
unfolding events_from running_from
quiet_from state running p time zero tidy wanted now last = (refl, refl)
quiet_from state running p time (suc n) tidy wanted now last =
    let tl = state.timeline in
    let low = pulse-le tl (time -ℤ pos 1) time tidy (omega (arith, ints)) in
    let high = pulse-le tl time (time +ℤ pos (suc n) -ℤ pos 1) tidy (omega (arith, ints)) in
    let here : pulse_of tl time ≡ p = omega (arith, ints) in
    let quiet = quiet_at tl time p tidy now here in
    let back : time +ℤ pos 1 -ℤ pos 1 ≡ time = omega (arith, ints) in
    let along : time +ℤ pos 1 +ℤ pos n -ℤ pos 1 ≡ time +ℤ pos (suc n) -ℤ pos 1 = omega (arith, ints) in
    let same = running_at-quiet state running time wanted quiet in
    let rest = quiet_from state running p (time +ℤ pos 1) n tidy (λ runs. wants_later state time (time +ℤ pos 1) (omega (arith, ints)) (wanted runs))
    (sym (ap (pulse_of tl) back ∙ here)) (ap (pulse_of tl) along ∙ last) in (
      ap (λ xs. xs ++ events_from state (running_at state running time) (time +ℤ pos 1) n) (events_at-quiet state running time wanted quiet)
          ∙ ap (λ b. events_from state b (time +ℤ pos 1) n) same ∙ rest.0,
      ap (λ b. running_from state b (time +ℤ pos 1) n) same ∙ rest.1,
    )
