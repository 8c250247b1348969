-- Each continue stands behind its position, and each position before its continue; positions are short.
use Rattle.std.proofs.Common.{◌≡◌, ◌⊎◌, ℕ, zero, suc, ◌<◌, ◌≤◌, ℤ, pos, negsuc, ◌+ℤ◌, unsigned_abs, Bool, true, false, cond, Option, Some, None, List, [], ◌∷◌, ◌++◌, All, refl, ap, sym, subst, ◌∙◌, inl, inr, arith}
use Rattle.std.specs.Int.{int_div_euclid, int_rem_euclid}
use Rattle.std.proofs.lemmas.List.Elements.{All-nil, All-cons}
use Rattle.client_state.specs.declared.state.State.{State}
use Rattle.link_midi.specs.Pulse.{pulse_of, pulses_at}
use Rattle.link_midi.specs.Events.{event, position_of, opening_at, stops_at, begins_at, events_at, running_at, events_from, events_of, running_after, Part, all_events_of}
use Rattle.link_midi.specs.Messages.{IsMessage}
use Rattle.link_midi.specs.Pairs.{EndWithPosition, BeginWithContinue}
use Rattle.link_midi.specs.declared.message.MidiMessage.{MidiMessage}
use Rattle.link_midi.specs.declared.message.MidiMessage.TheVariants.{Clock, Start, Continue, Stop, Position}
use Rattle.link_midi.specs.declared.message.MidiEvent.{MidiEvent}

-- how it goes on behind a message that isn't a continue: a position, which is short, waits for its continue
abbrev GoesOn : MidiMessage → Type 0 → Type 0 → Type 0
GoesOn Clock free waiting = free
GoesOn Start free waiting = free
GoesOn Continue free waiting = ⊥
GoesOn Stop free waiting = free
GoesOn (Position n) free waiting = (1 ≤ n) × (n < 16_384) × waiting

-- positions and continues come in pairs, where a position of some time may already wait
abbrev ArePaired : List MidiEvent → Option ℤ → Type 0
ArePaired [] None = Unit {0}
ArePaired [] (Some time) = ⊥
ArePaired (x ∷ xs) None = GoesOn x.message (ArePaired xs None) (ArePaired xs (Some x.at))
ArePaired (x ∷ xs) (Some time) = (x ≡ event time Continue) × ArePaired xs None

going : (m : MidiMessage) (A B C : Type 0) → (A → C) → (B → C) → GoesOn m A B → C
going Clock A B C f g h = f h
going Start A B C f g h = f h
going Continue A B C f g h = absurd h
going Stop A B C f g h = f h
going (Position n) A B C f g h = g h.2

going_as : (m : MidiMessage) (A B C D : Type 0) → (A → C) → (B → D) → GoesOn m A B → GoesOn m C D
going_as Clock A B C D f g h = f h
going_as Start A B C D f g h = f h
going_as Continue A B C D f g h = h
going_as Stop A B C D f g h = f h
going_as (Position n) A B C D f g h = (h.0, h.1, g h.2)

going_short : (m : MidiMessage) (A B : Type 0) → GoesOn m A B → IsMessage m
going_short Clock A B h = tt
going_short Start A B h = tt
going_short Continue A B h = tt
going_short Stop A B h = tt
going_short (Position n) A B h = h.1

-- ---- all events come in pairs

paired_append : (xs ys : List MidiEvent) (waiting : Option ℤ) → ArePaired xs waiting → ArePaired ys None → ArePaired (xs ++ ys) waiting
paired_append [] ys None h k = k
paired_append [] ys (Some time) h k = absurd h
paired_append (x ∷ xs) ys None h k =
    going_as x.message (ArePaired xs None) (ArePaired xs (Some x.at)) (ArePaired (xs ++ ys) None) (ArePaired (xs ++ ys) (Some x.at))
    (λ rest. paired_append xs ys None rest k) (λ rest. paired_append xs ys (Some x.at) rest k) h
paired_append (x ∷ xs) ys (Some time) h k = (h.0, paired_append xs ys None h.1 k)

paired_if : (b : Bool) (xs : List MidiEvent) → ArePaired xs None → ArePaired (cond b xs []) None
paired_if true xs h = h
paired_if false xs h = tt

rem_short : (z : ℤ) → unsigned_abs (int_rem_euclid z (pos 16_384)) < 16_384
rem_short (pos n) = omega arith
rem_short (negsuc n) = omega arith

position_of-short : (pulse : ℤ) → position_of pulse < 16_384
unfolding position_of
position_of-short pulse = rem_short (int_div_euclid pulse (pos 6))

paired_opening : (time : ℤ) (n : ℕ) → n < 16_384 → ArePaired (opening_at time n) None
unfolding opening_at
paired_opening time zero short = tt
paired_opening time (suc n) short = (omega arith, short, (refl, tt))

paired_at : (state : State) (running : Bool) (time : ℤ) → ArePaired (events_at state running time) None
unfolding events_at
paired_at state running time =
    let position = position_of (pulse_of state.timeline time) in
    let stop = cond (stops_at state running time) (event time Stop ∷ []) [] in
    let opening = cond (begins_at state running time) (opening_at time position) [] in
    let clock = cond (pulses_at state.timeline time) (event time Clock ∷ []) [] in
    paired_append (stop ++ opening) clock None
    (paired_append stop opening None
    (paired_if (stops_at state running time) (event time Stop ∷ []) tt)
    (paired_if (begins_at state running time) (opening_at time position) (paired_opening time position (position_of-short (pulse_of state.timeline time)))))
    (paired_if (pulses_at state.timeline time) (event time Clock ∷ []) tt)

paired_from : (state : State) (running : Bool) (time : ℤ) (n : ℕ) → ArePaired (events_from state running time n) None
unfolding events_from
paired_from state running time zero = tt
paired_from state running time (suc n) =
    let next = running_at state running time in
    paired_append (events_at state running time) (events_from state next (time +ℤ pos 1) n) None
    (paired_at state running time) (paired_from state next (time +ℤ pos 1) n)

paired_all : (running : Bool) (parts : List Part) → ArePaired (all_events_of running parts) None
unfolding all_events_of
paired_all running [] = tt
paired_all running (part ∷ parts) =
    let next = running_after part.state running part.block in
    paired_append (events_of part.state running part.block) (all_events_of next parts) None
    (paired_from part.state running part.block.start (unsigned_abs part.block.length)) (paired_all next parts)

-- ---- what stands before a continue

-- they end with a position of the time, which may be the one that waits
abbrev Ends : List MidiEvent → Option ℤ → ℤ → Type 0
Ends before None time = EndWithPosition before time
Ends before (Some from) time = ((before ≡ []) × (from ≡ time)) ⊎ EndWithPosition before time

ends_longer : (x : MidiEvent) (before : List MidiEvent) (time : ℤ) → EndWithPosition before time → EndWithPosition (x ∷ before) time
ends_longer x before time ends =
    record {
      earlier = x ∷ ends.earlier;
      sixteenths = ends.sixteenths;
      some = ends.some;
      short = ends.short;
      split = ap (λ xs. x ∷ xs) ends.split;
    }

ends_here : (x : MidiEvent) (n : ℕ) (before : List MidiEvent) (time : ℤ) → x.message ≡ Position n → 1 ≤ n → n < 16_384
    → before ≡ [] → x.at ≡ time → EndWithPosition (x ∷ before) time
ends_here x n before time is some short none same =
    record {
      earlier = [];
      sixteenths = n;
      some = some;
      short = short;
      split = ap (λ xs. x ∷ xs) none ∙ ap (λ t. event t x.message ∷ []) same ∙ ap (λ m. event time m ∷ []) is;
    }

ends_behind : (x : MidiEvent) (m : MidiMessage) (before : List MidiEvent) (time : ℤ) (A B : Type 0) → x.message ≡ m
    → (A → EndWithPosition before time) → (B → Ends before (Some x.at) time) → GoesOn m A B → EndWithPosition (x ∷ before) time
ends_behind x Clock before time A B is f g h = ends_longer x before time (f h)
ends_behind x Start before time A B is f g h = ends_longer x before time (f h)
ends_behind x Continue before time A B is f g h = absurd h
ends_behind x Stop before time A B is f g h = ends_longer x before time (f h)
ends_behind x (Position n) before time A B is f g h =
    elim (g h.2)
    [ inl here ↦ ends_here x n before time is h.0 h.1 here.0 here.1 | inr ends ↦ ends_longer x before time ends ]

ends : (before after : List MidiEvent) (waiting : Option ℤ) (time : ℤ) → ArePaired (before ++ event time Continue ∷ after) waiting → Ends before waiting time
ends [] after None time h = absurd h
ends [] after (Some from) time h = inl (refl, sym (ap (λ (x : MidiEvent). x.at) h.0))
ends (x ∷ before) after None time h =
    let all = before ++ event time Continue ∷ after in
    ends_behind x x.message before time (ArePaired all None) (ArePaired all (Some x.at)) refl
    (λ rest. ends before after None time rest) (λ rest. ends before after (Some x.at) time rest) h
ends (x ∷ before) after (Some from) time h = inr (ends_longer x before time (ends before after None time h.1))

pub before_continue : (running : Bool) (parts : List Part) (before after : List MidiEvent) (time : ℤ)
    → all_events_of running parts ≡ before ++ event time Continue ∷ after → EndWithPosition before time
before_continue running parts before after time e =
    ends before after None time (subst (λ (xs : List MidiEvent). ArePaired xs None) e (paired_all running parts))

-- ---- what stands behind a position

no_continue : (n : ℕ) → Position n ≡ Continue → ⊥
no_continue n e = cc

begins_here : (after : List MidiEvent) (time : ℤ) → ArePaired after (Some time) → BeginWithContinue after time
begins_here [] time h = absurd h
begins_here (x ∷ later) time h = record { later = later; split = ap (λ y. y ∷ later) h.0 }

begins : (before after : List MidiEvent) (waiting : Option ℤ) (time : ℤ) (n : ℕ) → ArePaired (before ++ event time (Position n) ∷ after) waiting → BeginWithContinue after time
begins [] after None time n h = begins_here after time h.2
begins [] after (Some from) time n h = absurd (no_continue n (ap (λ (x : MidiEvent). x.message) h.0))
begins (x ∷ before) after None time n h =
    let all = before ++ event time (Position n) ∷ after in
    going x.message (ArePaired all None) (ArePaired all (Some x.at)) (BeginWithContinue after time)
    (λ rest. begins before after None time n rest) (λ rest. begins before after (Some x.at) time n rest) h
begins (x ∷ before) after (Some from) time n h = begins before after None time n h.1

pub behind_position : (running : Bool) (parts : List Part) (before after : List MidiEvent) (time : ℤ) (sixteenths : ℕ)
    → all_events_of running parts ≡ before ++ event time (Position sixteenths) ∷ after → BeginWithContinue after time
behind_position running parts before after time sixteenths e =
    begins before after None time sixteenths (subst (λ (xs : List MidiEvent). ArePaired xs None) e (paired_all running parts))

-- ---- positions

abbrev IsSent : MidiEvent → Type 0
IsSent x = IsMessage x.message

all_short : (xs : List MidiEvent) (waiting : Option ℤ) → ArePaired xs waiting → All IsSent xs
all_short [] None h = All-nil IsSent
all_short [] (Some time) h = absurd h
all_short (x ∷ xs) None h =
    All-cons IsSent x xs
    (going_short x.message (ArePaired xs None) (ArePaired xs (Some x.at)) h)
    (going x.message (ArePaired xs None) (ArePaired xs (Some x.at)) (All IsSent xs)
    (λ rest. all_short xs None rest) (λ rest. all_short xs (Some x.at) rest) h)
all_short (x ∷ xs) (Some time) h =
    All-cons IsSent x xs (subst IsSent (sym h.0) tt) (all_short xs None h.1)

pub positions_short : (running : Bool) (parts : List Part) → All (λ (x : MidiEvent). IsMessage x.message) (all_events_of running parts)
positions_short running parts = all_short (all_events_of running parts) None (paired_all running parts)
