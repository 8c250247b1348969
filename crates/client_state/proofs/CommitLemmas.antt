-- What a commit carries, and what shows where it is laid over a state.
use Rattle.std.proofs.Common.{◌≡◌, ℕ, ◌<◌, ℤ, Bool, true, false, ◌&&◌, nat_lt, if◌then◌else◌, Some, None, unwrap_or, refl, ap, subst, sym, ◌∙◌, arith}
use Rattle.std.proofs.lemmas.Bool.Decides.{Decides-int_eq}
use Rattle.std.specs.Option.{ForSome}
use Rattle.std.specs.Ordering.{int_eq}
use Rattle.lk_base.specs.Ranges.{IsQuantum, IsWithinLimit}
use Rattle.lk_base.specs.Timeline.{IsTidy}
use Rattle.lk_base.specs.declared.start.ClientStart.{ClientStart}
use Rattle.lk_base.specs.declared.timeline.Timeline.{Timeline}
use Rattle.client_state.specs.Commit.{IsTidyCommit, IsTidyStart, same_bool, same_playing, same_timeline, timeline_between, start_between, quantum_between, commit_between}
use Rattle.client_state.specs.Edits.{timeline_at}
use Rattle.client_state.specs.Shown.{laid_over, shown_over}
use Rattle.client_state.specs.declared.commit.Commit.{Commit}
use Rattle.client_state.specs.declared.state.State.{State}
use Rattle.client_state.proofs.BoolLemmas.{both}

-- ---- from the tests
same_bool-equal : (a b : Bool) → same_bool a b ≡ true → a ≡ b
same_bool-equal true b e = sym e
same_bool-equal false true e = absurd (cc)
same_bool-equal false false e = refl

pub one_timeline : (a b : Timeline) → a.mpb ≡ b.mpb → a.beat ≡ b.beat → a.time ≡ b.time → a ≡ b
one_timeline a b mpb beat time =
    ap (λ z. timeline_at z a.beat a.time) mpb
    ∙ ap (λ z. timeline_at b.mpb z a.time) beat
    ∙ ap (λ z. timeline_at b.mpb b.beat z) time

same_timeline-equal : (a b : Timeline) → same_timeline a b ≡ true → a ≡ b
same_timeline-equal a b e =
    let tests = both (int_eq a.mpb b.mpb) (int_eq a.beat b.beat && int_eq a.time b.time) e in
    let origins = both (int_eq a.beat b.beat) (int_eq a.time b.time) tests.1 in
    let mpb = (Decides-int_eq a.mpb b.mpb).0 tests.0 in
    let beat = (Decides-int_eq a.beat b.beat).0 origins.0 in
    let time = (Decides-int_eq a.time b.time).0 origins.1 in
    one_timeline a b mpb beat time

same_playing-equal : (a b : ClientStart) → same_playing a b ≡ true → (a.playing ≡ b.playing) × (a.time ≡ b.time)
same_playing-equal a b e =
    let tests = both (same_bool a.playing b.playing) (int_eq a.time b.time) e in
    (same_bool-equal a.playing b.playing tests.0, (Decides-int_eq a.time b.time).0 tests.1)

-- ---- what shows
-- what is carried where either test fails, and else what was there
carried : {X Y : Type 0} (see : X → Y) (a b : Bool) (new old sent : X) → see sent ≡ see new → (a ≡ true → see new ≡ see old) → see (unwrap_or (if a && b then None else Some sent) old) ≡ see new
carried see true true new old sent same kept = sym (kept refl)
carried see true false new old sent same kept = same
carried see false b new old sent same kept = same

pub between-timeline : (old shown new : Timeline) → unwrap_or (timeline_between old shown new) old ≡ new
between-timeline old shown new =
    carried (λ tl. tl) (same_timeline new old) (same_timeline new shown) new old new refl (same_timeline-equal new old)

pub between-playing : (old shown new : ClientStart) (now : ℤ) → (unwrap_or (start_between old shown new now) old).playing ≡ new.playing
between-playing old shown new now =
    carried (λ start. start.playing) (same_playing new old) (same_playing new shown) new old (record new { stamp = now }) refl
    (λ same. (same_playing-equal new old same).0)

pub between-time : (old shown new : ClientStart) (now : ℤ) → (unwrap_or (start_between old shown new now) old).time ≡ new.time
between-time old shown new now =
    carried (λ start. start.time) (same_playing new old) (same_playing new shown) new old (record new { stamp = now }) refl
    (λ same. (same_playing-equal new old same).1)

pub between-quantum : (old shown new : ℤ) → unwrap_or (quantum_between old shown new) old ≡ new
between-quantum old shown new =
    carried (λ quantum. quantum) (int_eq new old) (int_eq new shown) new old new refl (Decides-int_eq new old).0

pub shown_over-later : (number taken : ℕ) (commit : Commit) (state : State) → taken < number → shown_over (Some (number, commit)) taken state ≡ laid_over commit state
unfolding shown_over
shown_over-later number taken commit state lt =
    let later : nat_lt taken number ≡ true = grind arith in
    ap (λ b. if b then laid_over commit state else state) later

-- ---- what is tidy
some_if : {X : Type 0} (P : X → Type 0) (none : Bool) (x : X) → P x → ForSome (if none then None else Some x) P
some_if P true x h = λ y e. absurd (cc)
some_if P false x h = λ y e. let same : x ≡ y = cc in subst P same h

pub commit_between-tidy : (old shown new : State) (now : ℤ) → IsTidy new.timeline → IsWithinLimit new.start.time → IsQuantum new.quantum → IsWithinLimit now → IsTidyCommit (commit_between old shown new now)
unfolding commit_between
commit_between-tidy old shown new now tidy time range within = record {
  timeline = some_if IsTidy (same_timeline new.timeline old.timeline && same_timeline new.timeline shown.timeline) new.timeline tidy;
  start = some_if IsTidyStart (same_playing new.start old.start && same_playing new.start shown.start) (record new.start { stamp = now }) (record { time = time; stamp = within });
  quantum = some_if IsQuantum (int_eq new.quantum old.quantum && int_eq new.quantum shown.quantum) new.quantum range;
  at = within;
}
