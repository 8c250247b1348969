-- What the events taken in one turn are after those taken before it.
use Rattle.std.proofs.Common.{◌≡◌, ℕ, ℤ, int_le, ◌<◌, ◌≤ℤ◌, ◌||◌, Bool, true, false, if◌then◌else◌, List, [], ◌∷◌, ◌++◌, nat_lt, refl, sym, ap, subst, ◌∙◌, ⊎_elim, append_assoc, append-nil, true≢false, arith}
use Rattle.std.proofs.lemmas.Bool.Decides.{nat_tests}
use Rattle.std.proofs.lemmas.Int.{ints}
use Rattle.audio_handoff.specs.Cell.{Pair}
use Rattle.client_state.specs.Words.{commit_of_words}
use Rattle.link_node.specs.Due.{due_of}
use Rattle.link_node.specs.Event.{EventValue, Rx, Tick, App, Audio, moment_of}
use Rattle.link_node.specs.Machine.{Machine}
use Rattle.link_node.specs.Runs.{machine_after, AreFitting}
use Rattle.link_node.specs.Step.{step_of}
use Rattle.link_node.specs.WellFormed.{IsMachine}
use Rattle.link_shared.specs.Hub.{item_events, read_events, got_events}
use Rattle.link_shared.specs.declared.got.Got.{Got}
use Rattle.link_shared.specs.declared.got.Got.TheVariants as got
use Rattle.link_shared.specs.declared.queue.Item.{Item}
use Rattle.link_shared.specs.declared.queue.Item.TheVariants as item
use Rattle.std.specs.Prelude.{Option, Some, None}
use Rattle.link_live.specs.Journal.{MayFollow, MayFollowKind, AreInOrder, AreAt, owes_tick, has_ended}
use Rattle.link_live.specs.Running.{RunLaws}
use Rattle.link_live.proofs.JournalLemmas.{has_ended-append, owes_tick-append, one_after, owes_after_datagram, owes_after_tick, owes_after_commit, owes_after_audio, first_fit, cut_first}

-- what holds of the events so far at a moment: none is past it, a tick that has to come first is due, and they haven't ended
pub record IsUpTo (opening : Machine) (clock : ℤ) (es : List EventValue) : Type 0 where
  pub reached : (machine_after opening es).moment ≤ℤ clock
  pub owed : owes_tick true opening es ≡ true → due_of (machine_after opening es) ≤ℤ clock
  pub goes_on : has_ended es ≡ false

-- these events at that moment may follow, and it holds after them
pub record HasGone (opening : Machine) (clock : ℤ) (before taken : List EventValue) : Type 0 where
  pub order : AreInOrder opening before taken
  pub at : AreAt clock taken
  pub after : IsUpTo opening clock (before ++ taken)

-- what the turn was given can be taken after these events
abbrev pub IsReadyFor : Machine → ℤ → List EventValue → Got → Type 0
IsReadyFor opening clock before got.Nothing = Unit {0}
IsReadyFor opening clock before (got.Datagram gate from bytes) = owes_tick true opening before ≡ false
IsReadyFor opening clock before got.Tick = due_of (machine_after opening before) ≤ℤ clock
IsReadyFor opening clock before got.End = ⊥

pub gone_none : (opening : Machine) (clock : ℤ) (before taken : List EventValue) → taken ≡ [] → IsUpTo opening clock before → HasGone opening clock before taken
gone_none opening clock before [] e up = record { order = tt; at = tt; after = subst (λ (l : List EventValue). IsUpTo opening clock l) (sym (append-nil before)) up }
gone_none opening clock before (x ∷ taken) e up = absurd (cc e)

pub gone_first : (opening : Machine) (clock : ℤ) (before more : List EventValue) (e : EventValue) → MayFollow opening before e → moment_of e ≡ clock
    → HasGone opening clock (before ++ e ∷ []) more → HasGone opening clock before (e ∷ more)
gone_first opening clock before more e may at gone = record {
  order = (may, gone.order);
  at = (at, gone.at);
  after = subst (λ (l : List EventValue). IsUpTo opening clock l) (append_assoc before (e ∷ []) more) gone.after;
}

-- the machine after one more event
after_more : (laws : RunLaws) (opening : Machine) (before : List EventValue) (e : EventValue) → machine_after opening (before ++ e ∷ []) ≡ step_of (machine_after opening before) e
after_more laws opening before e = laws.machine opening before (e ∷ []) ∙ one_after (machine_after opening before) e

pub reached_by : (laws : RunLaws) (opening : Machine) (clock : ℤ) (before : List EventValue) (e : EventValue) → (machine_after opening before).moment ≤ℤ clock → moment_of e ≡ clock
    → (machine_after opening (before ++ e ∷ [])).moment ≤ℤ clock
reached_by laws opening clock before e reached at =
    let is : (machine_after opening (before ++ e ∷ [])).moment ≡ moment_of e =
    ap (λ (m : Machine). m.moment) (after_more laws opening before e) ∙ laws.reaches (machine_after opening before) e (subst (λ (n : ℤ). (machine_after opening before).moment ≤ℤ n) (sym at) reached) in
    let same : (machine_after opening (before ++ e ∷ [])).moment ≡ clock = is ∙ at in subst (λ (n : ℤ). n ≤ℤ clock) (sym same) (at_itself clock)
  where
    at_itself : (n : ℤ) → n ≤ℤ n
    at_itself n = omega (arith, ints)

may_by : (opening : Machine) (clock : ℤ) (before : List EventValue) (e : EventValue) → IsUpTo opening clock before → moment_of e ≡ clock → MayFollowKind opening before e → MayFollow opening before e
may_by opening clock before e up at kind = record {
  moment = subst (λ (n : ℤ). (machine_after opening before).moment ≤ℤ n) (sym at) up.reached;
  goes_on = up.goes_on;
  kind = kind;
}

-- ---- a commit

up_to_commit : (laws : RunLaws) (opening : Machine) (clock : ℤ) (before : List EventValue) (e : EventValue) → IsUpTo opening clock before → moment_of e ≡ clock
    → ((owed : Bool) (m : Machine) → owes_tick owed m (e ∷ []) ≡ owed) → has_ended (e ∷ []) ≡ false
    → (due_of (machine_after opening before) ≤ℤ clock → due_of (step_of (machine_after opening before) e) ≤ℤ clock)
    → IsUpTo opening clock (before ++ e ∷ [])
up_to_commit laws opening clock before e up at same still puts_off = record {
  reached = reached_by laws opening clock before e up.reached at;
  owed = λ owes. subst (λ (m : Machine). due_of m ≤ℤ clock) (sym (after_more laws opening before e))
      (puts_off (up.owed (sym (owes_tick-append true opening before (e ∷ []) ∙ same (owes_tick true opening before) (machine_after opening before)) ∙ owes)));
  goes_on = has_ended-append before (e ∷ []) ∙ ap (λ b. b || has_ended (e ∷ [])) up.goes_on ∙ still;
}

ready_after : (laws : RunLaws) (opening : Machine) (clock : ℤ) (before : List EventValue) (e : EventValue) (brought : Got)
    → ((owed : Bool) (m : Machine) → owes_tick owed m (e ∷ []) ≡ owed)
    → (due_of (machine_after opening before) ≤ℤ clock → due_of (step_of (machine_after opening before) e) ≤ℤ clock)
    → IsReadyFor opening clock before brought → IsReadyFor opening clock (before ++ e ∷ []) brought
ready_after laws opening clock before e got.Nothing same puts_off ready = tt
ready_after laws opening clock before e (got.Datagram gate from bytes) same puts_off ready =
    owes_tick-append true opening before (e ∷ []) ∙ same (owes_tick true opening before) (machine_after opening before) ∙ ready
ready_after laws opening clock before e got.Tick same puts_off ready = subst (λ (m : Machine). due_of m ≤ℤ clock) (sym (after_more laws opening before e)) (puts_off ready)
ready_after laws opening clock before e got.End same puts_off ready = ready

-- ---- what the turn was given

up_to_datagram : (laws : RunLaws) (opening : Machine) (clock : ℤ) (before : List EventValue) (gate : _) (from : _) (bytes : _) → IsUpTo opening clock before
    → IsUpTo opening clock (before ++ Rx gate from bytes clock ∷ [])
up_to_datagram laws opening clock before gate from bytes up =
    let e : EventValue = Rx gate from bytes clock in
    let m : Machine = machine_after opening before in record {
      reached = reached_by laws opening clock before e up.reached refl;
      owed = λ owes.
          subst (λ (n : Machine). due_of n ≤ℤ clock) (sym (after_more laws opening before e))
          (is_at_most (due_of (step_of m e)) clock
          (sym (owes_tick-append true opening before (e ∷ []) ∙ owes_after_datagram (owes_tick true opening before) m gate from bytes clock) ∙ owes));
      goes_on = has_ended-append before (e ∷ []) ∙ ap (λ b. b || false) up.goes_on;
    }
  where
    is_at_most : (a b : ℤ) → int_le a b ≡ true → a ≤ℤ b
    is_at_most a b le = grind (arith, ints, nat_tests)

up_to_tick : (laws : RunLaws) (opening : Machine) (clock : ℤ) (before : List EventValue) → IsUpTo opening clock before → IsUpTo opening clock (before ++ Tick clock ∷ [])
up_to_tick laws opening clock before up = record {
  reached = reached_by laws opening clock before (Tick clock) up.reached refl;
  owed = λ owes.
      absurd (true≢false (sym owes ∙ owes_tick-append true opening before (Tick clock ∷ []) ∙ owes_after_tick (owes_tick true opening before) (machine_after opening before) clock));
  goes_on = has_ended-append before (Tick clock ∷ []) ∙ ap (λ b. b || false) up.goes_on;
}

first_empty : {A : Type 0} (xs ys : List A) → xs ++ ys ≡ [] → xs ≡ []
first_empty [] ys e = refl
first_empty (x ∷ xs) ys e = absurd (cc e)

one_gone : (opening : Machine) (clock : ℤ) (before taken refused : List EventValue) (e : EventValue) → e ∷ [] ≡ taken ++ refused → moment_of e ≡ clock
    → IsUpTo opening clock before → MayFollowKind opening before e → IsUpTo opening clock (before ++ e ∷ []) → HasGone opening clock before taken
one_gone opening clock before taken refused e split at up kind after =
    ⊎_elim
    (λ (t : (taken ≡ []) × (refused ≡ e ∷ [])). gone_none opening clock before taken t.0 up)
    (λ (t : (more : List EventValue) × (taken ≡ e ∷ more) × ([] ≡ more ++ refused)).
    subst (λ (l : List EventValue). HasGone opening clock before l) (sym t.1)
    (gone_first opening clock before t.0 e (may_by opening clock before e up at kind) at (gone_none opening clock (before ++ e ∷ []) t.0 (first_empty t.0 refused (sym t.2)) after)))
    (cut_first e [] taken refused split)

got_gone : (laws : RunLaws) (opening : Machine) (clock : ℤ) (before taken refused : List EventValue) (brought : Got) → got_events clock brought ≡ taken ++ refused
    → IsUpTo opening clock before → IsReadyFor opening clock before brought → HasGone opening clock before taken
got_gone laws opening clock before taken refused got.Nothing split up ready = gone_none opening clock before taken (first_empty taken refused (sym split)) up
got_gone laws opening clock before taken refused (got.Datagram gate from bytes) split up ready =
    one_gone opening clock before taken refused (Rx gate from bytes.items clock) split refl up ready (up_to_datagram laws opening clock before gate from bytes.items up)
got_gone laws opening clock before taken refused got.Tick split up ready =
    one_gone opening clock before taken refused (Tick clock) split refl up ready (up_to_tick laws opening clock before up)
got_gone laws opening clock before taken refused got.End split up ready = absurd ready

-- ---- the commits before it

commit_gone : (laws : RunLaws) (opening : Machine) (clock : ℤ) (gates : ℕ) (before taken refused later : List EventValue) (e : EventValue) (brought : Got)
    → ((es : List EventValue) → AreFitting gates 0 0 es → IsMachine (machine_after opening es)) → AreFitting gates 0 0 (before ++ taken)
    → e ∷ later ≡ taken ++ refused → moment_of e ≡ clock → MayFollowKind opening before e
    → ((owed : Bool) (m : Machine) → owes_tick owed m (e ∷ []) ≡ owed) → has_ended (e ∷ []) ≡ false
    → (IsMachine (machine_after opening before) → due_of (machine_after opening before) ≤ℤ clock → due_of (step_of (machine_after opening before) e) ≤ℤ clock)
    → IsUpTo opening clock before → IsReadyFor opening clock before brought
    → ((more : List EventValue) → AreFitting gates 0 0 ((before ++ e ∷ []) ++ more) → later ≡ more ++ refused → IsUpTo opening clock (before ++ e ∷ [])
    → IsReadyFor opening clock (before ++ e ∷ []) brought → HasGone opening clock (before ++ e ∷ []) more)
    → HasGone opening clock before taken
commit_gone laws opening clock gates before taken refused later e brought machines fits split at kind same still puts_off up ready next =
    ⊎_elim
    (λ (t : (taken ≡ []) × (refused ≡ e ∷ later)). gone_none opening clock before taken t.0 up)
    (λ (t : (more : List EventValue) × (taken ≡ e ∷ more) × (later ≡ more ++ refused)).
    let off : due_of (machine_after opening before) ≤ℤ clock → due_of (step_of (machine_after opening before) e) ≤ℤ clock = puts_off (machines before (first_fit gates 0 0 before taken fits)) in
    subst (λ (l : List EventValue). HasGone opening clock before l) (sym t.1)
    (gone_first opening clock before t.0 e (may_by opening clock before e up at kind) at
    (next t.0
    (subst (λ (l : List EventValue). AreFitting gates 0 0 l) (sym (append_assoc before (e ∷ []) t.0)) (subst (λ (l : List EventValue). AreFitting gates 0 0 (before ++ l)) t.1 fits))
    t.2 (up_to_commit laws opening clock before e up at same still off) (ready_after laws opening clock before e brought same off ready))))
    (cut_first e later taken refused split)

read_gone : (laws : RunLaws) (opening : Machine) (clock : ℤ) (gates held : ℕ) (before taken refused : List EventValue) (pair : Pair) (brought : Got)
    → ((es : List EventValue) → AreFitting gates 0 0 es → IsMachine (machine_after opening es)) → AreFitting gates 0 0 (before ++ taken)
    → held ≡ (machine_after opening before).audio → read_events clock held pair ++ got_events clock brought ≡ taken ++ refused
    → IsUpTo opening clock before → IsReadyFor opening clock before brought → HasGone opening clock before taken
read_gone laws opening clock gates held before taken refused pair brought machines fits same_held split up ready = by_test (nat_lt held pair.0) refl split
  where
    by_test : (later : Bool) → nat_lt held pair.0 ≡ later
        → (if later then Audio pair.0 (commit_of_words pair.1) clock ∷ [] else []) ++ got_events clock brought ≡ taken ++ refused → HasGone opening clock before taken
    by_test false test parts = got_gone laws opening clock before taken refused brought parts up ready
    by_test true test parts =
        let rises : held < pair.0 = grind (arith, nat_tests) in
        commit_gone laws opening clock gates before taken refused (got_events clock brought) (Audio pair.0 (commit_of_words pair.1) clock) brought machines fits parts refl
        (subst (λ (n : ℕ). n < pair.0) same_held rises)
        (λ owed m. owes_after_audio owed m pair.0 (commit_of_words pair.1) clock) refl
        (λ machine due. laws.audio_puts_off (machine_after opening before) pair.0 (commit_of_words pair.1) clock machine due) up ready
        (λ more _ rest after still_ready. got_gone laws opening clock (before ++ Audio pair.0 (commit_of_words pair.1) clock ∷ []) more refused brought rest after still_ready)

-- all that a turn offers, and what of it was taken
pub turn_gone : (laws : RunLaws) (opening : Machine) (clock : ℤ) (gates : ℕ) (before taken refused : List EventValue) (popped : Option Item) (pair : Pair) (brought : Got)
    → ((es : List EventValue) → AreFitting gates 0 0 es → IsMachine (machine_after opening es)) → AreFitting gates 0 0 (before ++ taken)
    → (item_events clock popped ++ read_events clock (machine_after opening before).audio pair) ++ got_events clock brought ≡ taken ++ refused
    → IsUpTo opening clock before → IsReadyFor opening clock before brought → HasGone opening clock before taken
turn_gone laws opening clock gates before taken refused None pair brought machines fits split up ready =
    read_gone laws opening clock gates (machine_after opening before).audio before taken refused pair brought machines fits refl split up ready
turn_gone laws opening clock gates before taken refused (Some item.Quit) pair brought machines fits split up ready =
    read_gone laws opening clock gates (machine_after opening before).audio before taken refused pair brought machines fits refl split up ready
turn_gone laws opening clock gates before taken refused (Some (item.Commit commit)) pair brought machines fits split up ready =
    let held : ℕ = (machine_after opening before).audio in
    let e : EventValue = App commit clock in
    commit_gone laws opening clock gates before taken refused (read_events clock held pair ++ got_events clock brought) e brought machines fits split refl tt
    (λ owed m. owes_after_commit owed m commit clock) refl
    (λ machine due. laws.app_puts_off (machine_after opening before) commit clock machine due) up ready
    (λ more fitting rest after still_ready.
    read_gone laws opening clock gates held (before ++ e ∷ []) more refused pair brought machines fitting
    (sym (ap (λ (m : Machine). m.audio) (after_more laws opening before e) ∙ laws.audio (machine_after opening before) e)) rest after still_ready)
