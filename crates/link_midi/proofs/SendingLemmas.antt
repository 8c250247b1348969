-- What is added at a time that pulses: the opening, where it begins, and a clock.
use Rattle.std.proofs.Common.{◌≡◌, ℕ, zero, suc, ℤ, Bool, true, false, not, ◌&&◌, ◌||◌, cond, List, [], ◌∷◌, ◌++◌, refl, ap, sym, ◌∙◌, append_assoc}
use Rattle.std.proofs.lemmas.Bool.{false≢true}
use Rattle.client_state.specs.declared.state.State.{State}
use Rattle.link_midi.specs.Pulse.{pulse_of, pulses_at}
use Rattle.link_midi.specs.Events.{wants_at, event, is_sixteenth, position_of, opening_at, events_at, running_at}
use Rattle.link_midi.specs.declared.message.MidiMessage.TheVariants.{Clock, Continue, Position}
use Rattle.link_midi.specs.declared.message.MidiEvent.{MidiEvent}
use Rattle.link_midi.proofs.EventLemmas.{begins, events_at-sounding, running_at-sounding}

pub opening_else : (time : ℤ) (n : ℕ) → ¬ (n ≡ 0) → opening_at time n ≡ event time (Position n) ∷ event time Continue ∷ []
unfolding opening_at
opening_else time zero some = absurd (some refl)
opening_else time (suc n) some = refl

pub begins_by : (state : State) (running : Bool) (time pulse : ℤ) (b : Bool) → pulse ≡ pulse_of state.timeline time
    → b ≡ (not running && wants_at state time && is_sixteenth pulse) → b ≡ begins state running time
begins_by state running time pulse b now e = e ∙ ap (λ p. not running && wants_at state time && is_sixteenth p) now

pub events_at-added : (state : State) (running : Bool) (time pulse : ℤ) (b : Bool) (old mid new : List MidiEvent) → pulse ≡ pulse_of state.timeline time
    → b ≡ (not running && wants_at state time && is_sixteenth pulse) → mid ≡ old ++ cond b (opening_at time (position_of pulse)) []
    → new ≡ mid ++ event time Clock ∷ [] → (running ≡ true → wants_at state time ≡ true) → pulses_at state.timeline time ≡ true
    → new ≡ old ++ events_at state running time
events_at-added state running time pulse b old mid new now e opened pushed wanted sounds =
    let clock = event time Clock ∷ [] in
    pushed
    ∙ ap (λ xs. xs ++ clock) opened
    ∙ append_assoc old (cond b (opening_at time (position_of pulse)) []) clock
    ∙ ap (λ c. old ++ (cond c (opening_at time (position_of pulse)) [] ++ clock)) (begins_by state running time pulse b now e)
    ∙ ap (λ p. old ++ (cond (begins state running time) (opening_at time (position_of p)) [] ++ clock)) now
    ∙ ap (λ xs. old ++ xs) (sym (events_at-sounding state running time wanted sounds))

pub running_then : (state : State) (running : Bool) (time : ℤ) → running ≡ true → (running ≡ true → wants_at state time ≡ true) → pulses_at state.timeline time ≡ true → true ≡ running_at state running time
running_then state running time e wanted sounds = sym (running_at-sounding state running time wanted sounds ∙ ap (λ r. r || begins state running time) e)

pub running_else : (state : State) (running : Bool) (time pulse : ℤ) (b : Bool) → running ≡ false → pulse ≡ pulse_of state.timeline time
    → b ≡ (not running && wants_at state time && is_sixteenth pulse) → (running ≡ true → wants_at state time ≡ true) → pulses_at state.timeline time ≡ true → b ≡ running_at state running time
running_else state running time pulse b e now is wanted sounds =
    begins_by state running time pulse b now is ∙ sym (running_at-sounding state running time wanted sounds ∙ ap (λ r. r || begins state running time) e)

pub not_running : (running w x b : Bool) → b ≡ (not running && w && x) → b ≡ true → running ≡ false
not_running true w x b e is = absurd (false≢true (sym e ∙ is))
not_running false w x b e is = refl
