-- How many clocks and others there are among events: a clock for each pulse that is passed.
use Rattle.std.proofs.Common.{◌≡◌, ℕ, zero, suc, ◌+◌, ◌≤◌, ℤ, pos, ◌+ℤ◌, ◌-ℤ◌, ◌≤ℤ◌, int_lt, Bool, true, false, not, cond, List, [], ◌∷◌, ◌++◌, length, count_by, refl, ap, sym, ◌∙◌, arith}
use Rattle.std.proofs.lemmas.Int.{ints}
use Rattle.std.proofs.lemmas.Bool.{false≢true}
use Rattle.std.proofs.lemmas.List.Sums.{sum_by-append, sum_by-cons}
use Rattle.lk_base.specs.Timeline.{IsTidy}
use Rattle.client_state.specs.declared.state.State.{State}
use Rattle.link_midi.specs.Pulse.{pulse_of, pulses_at}
use Rattle.link_midi.specs.Events.{wants_at, event, position_of, opening_at, stops_at, begins_at, events_at, running_at, events_from}
use Rattle.link_midi.specs.Messages.{is_clock_message, is_clock, is_other}
use Rattle.link_midi.specs.declared.message.MidiMessage.TheVariants.{Clock, Stop}
use Rattle.link_midi.specs.declared.message.MidiEvent.{MidiEvent}
use Rattle.link_midi.proofs.PulseLemmas.{pulse-le, pulse_step}
use Rattle.link_midi.proofs.EventLemmas.{begins, events_at-sounding}

pub count-append : (test : MidiEvent → Bool) (xs ys : List MidiEvent) → count_by test (xs ++ ys) ≡ count_by test xs + count_by test ys
count-append test xs ys = sum_by-append (λ e. cond (test e) 1 0) xs ys

opening_counts : (time : ℤ) (n : ℕ) → (count_by is_clock (opening_at time n) ≡ 0) × (count_by is_other (opening_at time n) ≤ 2)
unfolding opening_at is_clock_message
opening_counts time zero = (refl, omega arith)
opening_counts time (suc n) = (refl, omega arith)

begins_counts : (b : Bool) (time : ℤ) (n : ℕ) → (count_by is_clock (cond b (opening_at time n) []) ≡ 0) × (count_by is_other (cond b (opening_at time n) []) ≤ 2) × (b ≡ false → count_by is_other (cond b (opening_at time n) []) ≡ 0)
begins_counts true time n = let counts = opening_counts time n in (counts.0, counts.1, λ e. absurd (false≢true (sym e)))
begins_counts false time n = (refl, omega arith, λ e. refl)

clock_counts : (time : ℤ) → (count_by is_clock (event time Clock ∷ []) ≡ 1) × (count_by is_other (event time Clock ∷ []) ≡ 0)
unfolding is_clock_message
clock_counts time = (refl, refl)

pub stop_counts : (b : Bool) (time : ℤ) → (count_by is_clock (cond b (event time Stop ∷ []) []) ≡ 0) × (count_by is_other (cond b (event time Stop ∷ []) []) ≤ 1)
unfolding is_clock_message
stop_counts true time = (refl, omega arith)
stop_counts false time = (refl, omega arith)

-- what one time that pulses adds
pub pulse_counts : (state : State) (running : Bool) (time : ℤ) → (running ≡ true → wants_at state time ≡ true) → pulses_at state.timeline time ≡ true
    → (count_by is_clock (events_at state running time) ≡ 1) × (count_by is_other (events_at state running time) ≤ 2) × (begins state running time ≡ false → count_by is_other (events_at state running time) ≡ 0)
pulse_counts state running time wanted sounds =
    let b = begins state running time in
    let n = position_of (pulse_of state.timeline time) in
    let is = events_at-sounding state running time wanted sounds in
    let first = begins_counts b time n in
    let clock = clock_counts time in
    let clocks = ap (count_by is_clock) is ∙ count-append is_clock (cond b (opening_at time n) []) (event time Clock ∷ []) in
    let others = ap (count_by is_other) is ∙ count-append is_other (cond b (opening_at time n) []) (event time Clock ∷ []) in
    (omega (arith, first.0, clock.0), omega (arith, first.1, clock.1), λ none. omega (arith, first.2 none, clock.1))

one_of : (b : Bool) → cond b 1 0 + cond (not b) 1 0 ≡ 1
one_of true = refl
one_of false = refl

pub both_counts : (xs : List MidiEvent) → length xs ≡ count_by is_clock xs + count_by is_other xs
both_counts [] = refl
both_counts (x ∷ xs) =
    omega (arith, sum_by-cons (λ e. cond (is_clock e) 1 0) x xs, sum_by-cons (λ e. cond (is_other e) 1 0) x xs, both_counts xs, one_of (is_clock x))

-- ---- a clock for each pulse

clock_if : (b : Bool) (time : ℤ) → count_by is_clock (cond b (event time Clock ∷ []) []) ≡ cond b 1 0
clock_if true time = (clock_counts time).0
clock_if false time = refl

last_alone : (all both a b c k : ℕ) → all ≡ both + c → both ≡ a + b → a ≡ 0 → b ≡ 0 → c ≡ k → all ≡ k
last_alone all both a b c k whole front first second last = omega arith

clocks_at : (state : State) (running : Bool) (time : ℤ) → count_by is_clock (events_at state running time) ≡ cond (pulses_at state.timeline time) 1 0
unfolding events_at
clocks_at state running time =
    let position = position_of (pulse_of state.timeline time) in
    let stop = cond (stops_at state running time) (event time Stop ∷ []) [] in
    let opening = cond (begins_at state running time) (opening_at time position) [] in
    let clock = cond (pulses_at state.timeline time) (event time Clock ∷ []) [] in
    last_alone _ _ _ _ _ _ (count-append is_clock (stop ++ opening) clock) (count-append is_clock stop opening)
    (stop_counts (stops_at state running time) time).0
    (begins_counts (begins_at state running time) time position).0
    (clock_if (pulses_at state.timeline time) time)

rises_by : (a b : ℤ) (rises : Bool) → int_lt a b ≡ rises → a ≤ℤ b → b ≤ℤ (a +ℤ pos 1) → (a +ℤ pos (cond rises 1 0)) ≡ b
rises_by a b true e low high = omega (arith, ints)
rises_by a b false e low high = omega (arith, ints)

-- in one microsecond
pulse_after : (state : State) (running : Bool) (time : ℤ) → IsTidy state.timeline
    → (pulse_of state.timeline (time -ℤ pos 1) +ℤ pos (count_by is_clock (events_at state running time))) ≡ pulse_of state.timeline time
unfolding pulses_at
pulse_after state running time tidy =
    let tl = state.timeline in
    ap (λ (k : ℕ). pulse_of tl (time -ℤ pos 1) +ℤ pos k) (clocks_at state running time)
    ∙ rises_by (pulse_of tl (time -ℤ pos 1)) (pulse_of tl time) (pulses_at tl time) refl
    (pulse-le tl (time -ℤ pos 1) time tidy (omega (arith, ints))) (pulse_step tl time tidy)

none_more : (p : ℤ) → (p +ℤ pos 0) ≡ p
none_more p = omega (arith, ints)

some_more : (p q r : ℤ) (a b c : ℕ) → (p +ℤ pos a) ≡ q → (q +ℤ pos b) ≡ r → c ≡ a + b → (p +ℤ pos c) ≡ r
some_more p q r a b c first rest both = omega (arith, ints)

-- in n microseconds
pub pulse_after_all : (state : State) (running : Bool) (time : ℤ) (n : ℕ) → IsTidy state.timeline
    → (pulse_of state.timeline (time -ℤ pos 1) +ℤ pos (count_by is_clock (events_from state running time n))) ≡ pulse_of state.timeline (time +ℤ pos n -ℤ pos 1)
unfolding events_from
pulse_after_all state running time zero tidy =
    let here : time -ℤ pos 1 ≡ time +ℤ pos 0 -ℤ pos 1 = omega (arith, ints) in
    none_more (pulse_of state.timeline (time -ℤ pos 1)) ∙ ap (pulse_of state.timeline) here
pulse_after_all state running time (suc n) tidy =
    let tl = state.timeline in
    let next = running_at state running time in
    let rest = events_from state next (time +ℤ pos 1) n in
    let back : time ≡ time +ℤ pos 1 -ℤ pos 1 = omega (arith, ints) in
    let along : time +ℤ pos 1 +ℤ pos n -ℤ pos 1 ≡ time +ℤ pos (suc n) -ℤ pos 1 = omega (arith, ints) in
    some_more _ _ _ _ _ _ (pulse_after state running time tidy)
    (ap (λ (p : ℤ). p +ℤ pos (count_by is_clock rest)) (ap (pulse_of tl) back)
    ∙ pulse_after_all state next (time +ℤ pos 1) n tidy
    ∙ ap (pulse_of tl) along)
    (count-append is_clock (events_at state running time) rest)
