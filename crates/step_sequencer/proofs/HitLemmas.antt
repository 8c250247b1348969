-- The steps that begin in frames: cut in two, how many there are, and which.
use Rattle.std.proofs.Common.{◌≡◌, ℕ, zero, suc, ◌+◌, ◌<◌, ◌≤◌, ℤ, pos, ◌+ℤ◌, ◌-ℤ◌, ◌≤ℤ◌, unsigned_abs, int_lt, int_le, Bool, true, false, ◌&&◌, cond, List, [], ◌∷◌, ◌++◌, length, map, Option, Some, None, refl, ap, sym, ◌∙◌, arith, append_assoc, append-nil, length-append}
use Rattle.std.proofs.lemmas.Int.{ints}
use Rattle.std.proofs.lemmas.Bool.{false≢true}
use Rattle.std.proofs.lemmas.List.{map-append}
use Rattle.std.proofs.lemmas.List.Elements.{All-append, All-cons, All-nil}
use Rattle.std.specs.List.{All}
use Rattle.lk_base.specs.Timeline.{IsTidy}
use Rattle.lk_base.specs.declared.timeline.Timeline.{Timeline}
use Rattle.client_state.specs.declared.state.State.{State}
use Rattle.step_sequencer.specs.Frames.{before, end_of}
use Rattle.step_sequencer.specs.Steps.{step_at, plays_at, step_in, hits_of, struck_from, steps_passed, numbers_from}
use Rattle.step_sequencer.specs.declared.steps.Hit.{Hit}
use Rattle.step_sequencer.proofs.StepLemmas.{frame_time-le, before-le, before-single, before-double}

abbrev pub hits_in : State → ℤ → ℕ → List Hit
hits_in state origin frame = hits_of frame (step_in state origin frame)

-- ---- cut in two

pub struck_cut : (state : State) (origin : ℤ) (first n m k : ℕ) → k ≡ n + m
    → struck_from state origin first k ≡ struck_from state origin first n ++ struck_from state origin (first + n) m
unfolding struck_from
struck_cut state origin first zero m k e =
    let same : k ≡ m = omega arith in
    let here : first ≡ first + 0 = omega arith in
    ap (struck_from state origin first) same ∙ ap (λ (f : ℕ). struck_from state origin f m) here
struck_cut state origin first (suc n) m k e =
    let more : k ≡ suc (n + m) = omega arith in
    let along : first + 1 + n ≡ first + suc n = omega arith in
    let hits = hits_in state origin first in
    ap (struck_from state origin first) more
    ∙ ap (λ xs. hits ++ xs) (struck_cut state origin (first + 1) n m (n + m) refl)
    ∙ ap (λ (f : ℕ). hits ++ (struck_from state origin (first + 1) n ++ struck_from state origin f m)) along
    ∙ sym (append_assoc hits (struck_from state origin (first + 1) n) (struck_from state origin (first + suc n) m))

pub struck_more : (state : State) (origin : ℤ) (first n : ℕ)
    → struck_from state origin first (n + 1) ≡ struck_from state origin first n ++ hits_in state origin (first + n)
unfolding struck_from
struck_more state origin first n =
    struck_cut state origin first n 1 (n + 1) refl
    ∙ ap (λ (xs : List Hit). struck_from state origin first n ++ xs) (append-nil (hits_in state origin (first + n)))

-- ---- how many

hits_by : (p lt : Bool) (frame : ℕ) (a e : ℤ) → lt ≡ int_lt a e → a ≤ℤ e → (a +ℤ pos (length (hits_of frame (cond (p && lt) (Some e) None)))) ≤ℤ e
hits_by true true frame a e is le = omega (arith, ints)
hits_by true false frame a e is le = omega (arith, ints)
hits_by false true frame a e is le = omega (arith, ints)
hits_by false false frame a e is le = omega (arith, ints)

hits-most : (state : State) (origin : ℤ) (frame : ℕ) → IsTidy state.timeline
    → (step_at state.timeline (before origin frame) +ℤ pos (length (hits_in state origin frame))) ≤ℤ step_at state.timeline (before origin (frame + 1))
unfolding step_in
hits-most state origin frame tidy =
    let tl = state.timeline in
    hits_by (plays_at state (end_of origin frame)) (int_lt (step_at tl (before origin frame)) (step_at tl (end_of origin frame))) frame (step_at tl (before origin frame)) (step_at tl (end_of origin frame)) refl
    (before-le tl origin frame (frame + 1) tidy (omega arith))

both_most : (a b c : ℤ) (n m k : ℕ) → (a +ℤ pos n) ≤ℤ b → (b +ℤ pos m) ≤ℤ c → k ≡ n + m → (a +ℤ pos k) ≤ℤ c
both_most a b c n m k h g e = omega (arith, ints)

struck-most : (state : State) (origin : ℤ) (first n k : ℕ) → IsTidy state.timeline → k ≡ first + n
    → (step_at state.timeline (before origin first) +ℤ pos (length (struck_from state origin first n))) ≤ℤ step_at state.timeline (before origin k)
unfolding struck_from
struck-most state origin first zero k tidy e =
    let same : first ≡ k = omega arith in
    let here = ap (λ (f : ℕ). step_at state.timeline (before origin f)) same in
    omega (arith, ints)
struck-most state origin first (suc n) k tidy e =
    let tl = state.timeline in
    both_most (step_at tl (before origin first)) (step_at tl (before origin (first + 1))) (step_at tl (before origin k)) _ _ _
    (hits-most state origin first tidy)
    (struck-most state origin (first + 1) n k tidy (omega arith))
    (length-append (hits_in state origin first) (struck_from state origin (first + 1) n))

pub struck-few : (state : State) (origin : ℤ) (first n : ℕ) → IsTidy state.timeline → n ≤ 960 → length (struck_from state origin first n) ≤ 2
struck-few state origin first n tidy few =
    let most = struck-most state origin first n (first + n) tidy refl in
    let near = before-double state.timeline origin first (first + n) tidy (omega arith) in
    omega (arith, ints)

-- ---- which

pub passed-low : (tl : Timeline) (origin : ℤ) (first count : ℕ) → IsTidy tl → pos 0 ≤ℤ steps_passed tl origin first count
passed-low tl origin first count tidy =
    let rises = before-le tl origin first (first + count) tidy (omega arith) in
    omega (arith, ints)

plays_by : (playing : Bool) (start a b : ℤ) → a ≤ℤ b → (playing && int_le start a) ≡ true → (playing && int_le start b) ≡ true
plays_by true start a b le e = let later : true ≡ int_le start b = omega (arith, ints) in sym later
plays_by false start a b le e = absurd (false≢true e)

plays_on : (state : State) (origin : ℤ) (frame : ℕ) → plays_at state (end_of origin frame) ≡ true → plays_at state (end_of origin (frame + 1)) ≡ true
unfolding plays_at
plays_on state origin frame e =
    let rises = frame_time-le origin (frame + 1) (frame + 1 + 1) (omega arith) in
    plays_by state.start.playing state.start.time (end_of origin frame) (end_of origin (frame + 1)) (omega (arith, ints)) e

numbers_cut : (a b : ℤ) (n m k : ℕ) → k ≡ n + m → b ≡ a +ℤ pos n → numbers_from a k ≡ numbers_from a n ++ numbers_from b m
unfolding numbers_from
numbers_cut a b zero m k e f =
    let same : k ≡ m = omega arith in
    let here : a ≡ b = omega (arith, ints) in
    ap (numbers_from a) same ∙ ap (λ (z : ℤ). numbers_from z m) here
numbers_cut a b (suc n) m k e f =
    let more : k ≡ suc (n + m) = omega arith in
    ap (numbers_from a) more ∙ ap (λ xs. a ∷ xs) (numbers_cut (a +ℤ pos 1) b n m (n + m) refl (omega (arith, ints)))

steps_by : (p lt : Bool) (frame : ℕ) (a e : ℤ) (j : ℕ) → p ≡ true → lt ≡ int_lt a e → e ≡ a +ℤ pos j → j ≤ 1
    → map (λ (hit : Hit). hit.step) (hits_of frame (cond (p && lt) (Some e) None)) ≡ numbers_from (a +ℤ pos 1) j
unfolding numbers_from
steps_by false lt frame a e j play is more single = absurd (false≢true play)
steps_by true true frame a e zero play is more single = absurd (omega (arith, ints))
steps_by true true frame a e (suc zero) play is more single = ap (λ (z : ℤ). z ∷ []) more
steps_by true true frame a e (suc (suc j)) play is more single = absurd (omega arith)
steps_by true false frame a e zero play is more single = refl
steps_by true false frame a e (suc j) play is more single = absurd (omega (arith, ints))

steps_in : (state : State) (origin : ℤ) (frame j : ℕ) → plays_at state (end_of origin frame) ≡ true
    → step_at state.timeline (before origin (frame + 1)) ≡ step_at state.timeline (before origin frame) +ℤ pos j → j ≤ 1
    → map (λ (hit : Hit). hit.step) (hits_in state origin frame) ≡ numbers_from (step_at state.timeline (before origin frame) +ℤ pos 1) j
unfolding step_in
steps_in state origin frame j plays e single =
    let tl = state.timeline in
    steps_by (plays_at state (end_of origin frame)) (int_lt (step_at tl (before origin frame)) (step_at tl (end_of origin frame))) frame (step_at tl (before origin frame)) (step_at tl (end_of origin frame)) j plays refl e single

difference : (a b : ℤ) → a ≤ℤ b → b ≡ a +ℤ pos (unsigned_abs (b -ℤ a))
difference a b le = omega (arith, ints)

steps_all : (state : State) (origin : ℤ) (first n last k : ℕ) → IsTidy state.timeline → plays_at state (end_of origin first) ≡ true → last ≡ first + n
    → step_at state.timeline (before origin last) ≡ step_at state.timeline (before origin first) +ℤ pos k
    → map (λ (hit : Hit). hit.step) (struck_from state origin first n) ≡ numbers_from (step_at state.timeline (before origin first) +ℤ pos 1) k
unfolding struck_from numbers_from
steps_all state origin first zero last k tidy plays end e =
    let same : last ≡ first = omega arith in
    let here = ap (λ (f : ℕ). step_at state.timeline (before origin f)) same in
    let none : 0 ≡ k = omega (arith, ints) in
    ap (numbers_from (step_at state.timeline (before origin first) +ℤ pos 1)) none
steps_all state origin first (suc n) last k tidy plays end e =
    let tl = state.timeline in
    let a = step_at tl (before origin first) in
    let b = step_at tl (before origin (first + 1)) in
    let c = step_at tl (before origin last) in
    let j = unsigned_abs (b -ℤ a) in
    let i = unsigned_abs (c -ℤ b) in
    let up = before-le tl origin first (first + 1) tidy (omega arith) in
    let on = before-le tl origin (first + 1) last tidy (omega arith) in
    let single = before-single tl origin first tidy in
    let rest = struck_from state origin (first + 1) n in
    map-append (λ (hit : Hit). hit.step) (hits_in state origin first) rest
    ∙ ap (λ xs. xs ++ map (λ (hit : Hit). hit.step) rest) (steps_in state origin first j plays (difference a b up) (omega (arith, ints)))
    ∙ ap (λ xs. numbers_from (a +ℤ pos 1) j ++ xs) (steps_all state origin (first + 1) n last i tidy (plays_on state origin first plays) (omega arith) (difference b c on))
    ∙ sym (numbers_cut (a +ℤ pos 1) (b +ℤ pos 1) j i k (omega (arith, ints)) (omega (arith, ints)))

pub steps_once : (state : State) (origin : ℤ) (first count : ℕ) → IsTidy state.timeline → plays_at state (end_of origin first) ≡ true
    → map (λ (hit : Hit). hit.step) (struck_from state origin first count)
    ≡ numbers_from (step_at state.timeline (before origin first) +ℤ pos 1) (unsigned_abs (steps_passed state.timeline origin first count))
steps_once state origin first count tidy plays =
    let tl = state.timeline in
    steps_all state origin first count (first + count) (unsigned_abs (steps_passed tl origin first count)) tidy plays refl
    (difference (step_at tl (before origin first)) (step_at tl (before origin (first + count))) (before-le tl origin first (first + count) tidy (omega arith)))

-- ---- each in its frame

abbrev pub IsIn : State → ℤ → ℕ → ℕ → Hit → Type 0
IsIn state origin first count hit = (first ≤ hit.frame) × (hit.frame < first + count) × (step_in state origin hit.frame ≡ Some hit.step)

in_frame : (state : State) (origin : ℤ) (first n : ℕ) (o : Option ℤ) → step_in state origin first ≡ o → All (IsIn state origin first (suc n)) (hits_of first o)
in_frame state origin first n None e = All-nil (IsIn state origin first (suc n))
in_frame state origin first n (Some step) e =
    All-cons (IsIn state origin first (suc n)) (record { frame = first; step = step }) [] (omega arith, omega arith, e) (All-nil (IsIn state origin first (suc n)))

pub all_in : (state : State) (origin : ℤ) (first count : ℕ) → All (IsIn state origin first count) (struck_from state origin first count)
unfolding struck_from
all_in state origin first zero = All-nil (IsIn state origin first 0)
all_in state origin first (suc n) =
    let rest = all_in state origin (first + 1) n in
    All-append (IsIn state origin first (suc n)) (hits_in state origin first) (struck_from state origin (first + 1) n)
    (in_frame state origin first n (step_in state origin first) refl)
    (λ k d h. let at = rest k d h in (omega (arith, at.0), omega (arith, at.1), at.2))

-- ---- how they are gathered

pub none_struck : (state : State) (origin : ℤ) (first : ℕ) → [] ≡ struck_from state origin first 0
unfolding struck_from
none_struck state origin first = refl

pub few_more : (state : State) (origin : ℤ) (first n : ℕ) (hits : List Hit) → IsTidy state.timeline → n + 1 ≤ 960 → hits ≡ struck_from state origin first n
    → length (hits ++ hits_in state origin (first + n)) ≤ 2
few_more state origin first n hits tidy few so_far =
    let more = ap (λ xs. xs ++ hits_in state origin (first + n)) so_far ∙ sym (struck_more state origin first n) in
    omega (arith, ap length more, struck-few state origin first (n + 1) tidy few)

pub all_more : (state : State) (origin : ℤ) (first n : ℕ) (hits more : List Hit) → hits ≡ struck_from state origin first n → more ≡ hits ++ hits_in state origin (first + n)
    → more ≡ struck_from state origin first (n + 1)
all_more state origin first n hits more so_far is = is ∙ ap (λ xs. xs ++ hits_in state origin (first + n)) so_far ∙ sym (struck_more state origin first n)
