-- What stands in a journal, one list of events after another.
use Rattle.std.proofs.Common.{◌≡◌, ℕ, ℤ, int_le, ◌+◌, ◌||◌, ◌⊎◌, inl, inr, Bool, false, List, [], ◌∷◌, ◌++◌, refl, sym, ap, subst, ◌∙◌, append_assoc, append-nil, arith}
use Rattle.std.specs.List.{AllByRecursion}
use Rattle.link_node.specs.Due.{due_of}
use Rattle.link_node.specs.Event.{EventValue, Rx, Tick, App, Audio, End, app_after, audio_after}
use Rattle.link_node.specs.Machine.{Machine}
use Rattle.link_node.specs.Runs.{machine_after, AreFitting}
use Rattle.link_node.specs.Step.{step_of}
use Rattle.link_shared.specs.Journal.{app_commits_in}
use Rattle.link_live.specs.Journal.{datagram_events_in, ticks_in, has_ended, owes_tick, AreInOrder}

pub datagram_events_in-append : (es fs : List EventValue) → datagram_events_in (es ++ fs) ≡ datagram_events_in es ++ datagram_events_in fs
datagram_events_in-append [] fs = refl
datagram_events_in-append (Rx gate from bytes now ∷ es) fs = ap (λ l. Rx gate from bytes now ∷ l) (datagram_events_in-append es fs)
datagram_events_in-append (Tick now ∷ es) fs = datagram_events_in-append es fs
datagram_events_in-append (App commit now ∷ es) fs = datagram_events_in-append es fs
datagram_events_in-append (Audio number commit now ∷ es) fs = datagram_events_in-append es fs
datagram_events_in-append (End now ∷ es) fs = datagram_events_in-append es fs

pub ticks_in-append : (es fs : List EventValue) → ticks_in (es ++ fs) ≡ ticks_in es + ticks_in fs
ticks_in-append [] fs = omega arith
ticks_in-append (Rx gate from bytes now ∷ es) fs = ticks_in-append es fs
ticks_in-append (Tick now ∷ es) fs = omega (arith, ticks_in-append es fs)
ticks_in-append (App commit now ∷ es) fs = ticks_in-append es fs
ticks_in-append (Audio number commit now ∷ es) fs = ticks_in-append es fs
ticks_in-append (End now ∷ es) fs = ticks_in-append es fs

pub commits_in-append : (es fs : List EventValue) → app_commits_in (es ++ fs) ≡ app_commits_in es ++ app_commits_in fs
commits_in-append [] fs = refl
commits_in-append (Rx gate from bytes now ∷ es) fs = commits_in-append es fs
commits_in-append (Tick now ∷ es) fs = commits_in-append es fs
commits_in-append (App commit now ∷ es) fs = ap (λ l. commit ∷ l) (commits_in-append es fs)
commits_in-append (Audio number commit now ∷ es) fs = commits_in-append es fs
commits_in-append (End now ∷ es) fs = commits_in-append es fs

pub has_ended-append : (es fs : List EventValue) → has_ended (es ++ fs) ≡ (has_ended es || has_ended fs)
has_ended-append [] fs = refl
has_ended-append (Rx gate from bytes now ∷ es) fs = has_ended-append es fs
has_ended-append (Tick now ∷ es) fs = has_ended-append es fs
has_ended-append (App commit now ∷ es) fs = has_ended-append es fs
has_ended-append (Audio number commit now ∷ es) fs = has_ended-append es fs
has_ended-append (End now ∷ es) fs = refl

pub owes_tick-append : (owed : Bool) (m : Machine) (es fs : List EventValue) → owes_tick owed m (es ++ fs) ≡ owes_tick (owes_tick owed m es) (machine_after m es) fs
unfolding owes_tick machine_after
owes_tick-append owed m [] fs = refl
owes_tick-append owed m (Rx gate from bytes now ∷ es) fs =
    owes_tick-append (int_le (due_of (step_of m (Rx gate from bytes now))) now) (step_of m (Rx gate from bytes now)) es fs
owes_tick-append owed m (Tick now ∷ es) fs = owes_tick-append false (step_of m (Tick now)) es fs
owes_tick-append owed m (App commit now ∷ es) fs = owes_tick-append owed (step_of m (App commit now)) es fs
owes_tick-append owed m (Audio number commit now ∷ es) fs = owes_tick-append owed (step_of m (Audio number commit now)) es fs
owes_tick-append owed m (End now ∷ es) fs = owes_tick-append owed (step_of m (End now)) es fs

-- one more event
pub one_after : (m : Machine) (e : EventValue) → machine_after m (e ∷ []) ≡ step_of m e
unfolding machine_after
one_after m e = refl

pub owes_after_datagram : (owed : Bool) (m : Machine) (gate : _) (from : _) (bytes : _) (now : ℤ)
    → owes_tick owed m (Rx gate from bytes now ∷ []) ≡ int_le (due_of (step_of m (Rx gate from bytes now))) now
unfolding owes_tick
owes_after_datagram owed m gate from bytes now = refl

pub owes_after_tick : (owed : Bool) (m : Machine) (now : ℤ) → owes_tick owed m (Tick now ∷ []) ≡ false
unfolding owes_tick
owes_after_tick owed m now = refl

pub owes_after_commit : (owed : Bool) (m : Machine) (commit : _) (now : ℤ) → owes_tick owed m (App commit now ∷ []) ≡ owed
unfolding owes_tick
owes_after_commit owed m commit now = refl

pub owes_after_audio : (owed : Bool) (m : Machine) (number : ℕ) (commit : _) (now : ℤ) → owes_tick owed m (Audio number commit now ∷ []) ≡ owed
unfolding owes_tick
owes_after_audio owed m number commit now = refl

pub all-append : {A : Type 0} (P : A → Type 0) (xs ys : List A) → AllByRecursion P xs → AllByRecursion P ys → AllByRecursion P (xs ++ ys)
all-append P [] ys first second = second
all-append P (x ∷ xs) ys first second = (first.0, all-append P xs ys first.1 second)

pub all_later : {A : Type 0} (P : A → Type 0) (xs ys : List A) → AllByRecursion P (xs ++ ys) → AllByRecursion P ys
all_later P [] ys all = all
all_later P (x ∷ xs) ys all = all_later P xs ys all.1

pub in_order-append : (opening : Machine) (before es fs : List EventValue) → AreInOrder opening before es → AreInOrder opening (before ++ es) fs → AreInOrder opening before (es ++ fs)
in_order-append opening before [] fs first second = subst (λ (l : List EventValue). AreInOrder opening l fs) (append-nil before) second
in_order-append opening before (e ∷ es) fs first second =
    (first.0, in_order-append opening (before ++ e ∷ []) es fs first.1 (subst (λ (l : List EventValue). AreInOrder opening l fs) (sym (append_assoc before (e ∷ []) es)) second))

-- a front of events in order is in order
pub in_order-first : (opening : Machine) (before es fs : List EventValue) → AreInOrder opening before (es ++ fs) → AreInOrder opening before es
in_order-first opening before [] fs order = tt
in_order-first opening before (e ∷ es) fs order = (order.0, in_order-first opening (before ++ e ∷ []) es fs order.1)

pub all_first : {A : Type 0} (P : A → Type 0) (xs ys : List A) → AllByRecursion P (xs ++ ys) → AllByRecursion P xs
all_first P [] ys all = tt
all_first P (x ∷ xs) ys all = (all.0, all_first P xs ys all.1)

first_nil : {A : Type 0} (xs ys : List A) → xs ++ ys ≡ [] → xs ≡ []
first_nil [] ys e = refl
first_nil (x ∷ xs) ys e = absurd (cc e)

pub datagrams-first : (es fs : List EventValue) → datagram_events_in (es ++ fs) ≡ [] → datagram_events_in es ≡ []
datagrams-first es fs none = first_nil (datagram_events_in es) (datagram_events_in fs) (sym (datagram_events_in-append es fs) ∙ none)

pub first_fit : (gates app audio : ℕ) (es fs : List EventValue) → AreFitting gates app audio (es ++ fs) → AreFitting gates app audio es
first_fit gates app audio [] fs fits = tt
first_fit gates app audio (e ∷ es) fs fits = (fits.0, first_fit gates (app_after app e) (audio_after audio e) es fs fits.1)

-- ---- the parts of a list that begins so

-- none of them is in the first part, or the first is
pub cut_first : {A : Type 0} (x : A) (xs part rest : List A) → x ∷ xs ≡ part ++ rest
    → ((part ≡ []) × (rest ≡ x ∷ xs)) ⊎ ((more : List A) × (part ≡ x ∷ more) × (xs ≡ more ++ rest))
cut_first x xs [] rest e = inl (refl, sym e)
cut_first x xs (y ∷ part) rest e = let same : y ≡ x = cc e in let later : xs ≡ part ++ rest = cc e in inr (part, ap (λ h. h ∷ part) same, later)
