-- A look at the node.
use Rattle.std.proofs.Common.{◌≡◌, ⊎_elim, refl, sym, ◌∙◌, ap, subst, arith, ℕ, zero, suc, ◌≤◌, ℤ, ◌≤ℤ◌, Bool, true, false, List, [], ◌∷◌, length, Option, Some, None, FitsSigned, of_z, to_z, w64}
use Rattle.std.proofs.lemmas.Int.{ints, to_z-of_z}
use Rattle.lk_base.specs.Ranges.{IsMoment}
use Rattle.std.specs.Prelude.{slice_get}
use Rattle.client_state.specs.Shown.{shown_over}
use Rattle.client_state.specs.Words.{state_of_words}
use Rattle.client_state.specs.declared.state.State.{State}
use Rattle.lk_outside.specs.Pace.{IsPaced}
use Rattle.lk_talks.specs.Talks.{Passes, TalksSeen}
use Rattle.link_shared.specs.Passes.{AppView, HasCaptured}
use Rattle.link_shared.specs.declared.capture.Capture.{Capture}
use Rattle.link_control.specs.Log.{Numbered, captured_over}
use Rattle.link_control.specs.Serving.{HasUsed}
use Rattle.link_control.proofs.UsedLemmas.{used_captured}
use Rattle.link_clients.specs.Deeds.{Deed, Sight, commits_in, last_in, looking, newest_in, own_in, pairs_in, passed_by, sight_in}
use Rattle.link_clients.specs.Hosting.{EndsHosting}
use Rattle.link_clients.specs.Lawful.{NoneWaits}
use Rattle.link_clients.specs.Seats.{SeatView, seat_after, seat_in}
use Rattle.link_clients.specs.Standing.{GoesOn, HasStopped, IsEndAt, IsHosting, IsSeat, Stands, sight_of}
use Rattle.link_clients.specs.declared.hall.Hall.{Hall}
use Rattle.link_clients.specs.declared.seat.Seat.{Seat}
use Rattle.link_clients.specs.declared.terms.HostEnd.{HostEnd}
use Rattle.link_clients.specs.declared.terms.HostEnd.TheVariants as end
use Rattle.link_clients.specs.declared.terms.Terms.{Terms}
use Rattle.link_clients.proofs.DeedLemmas.{ends_by, ends_there, one_more, passes_none}

-- a capture is that of its pair
pub capture_is : (own : Option Numbered) (capture : Capture) (row : List ℕ) → capture.state ≡ state_of_words row
    → capture.shown ≡ shown_over own capture.state.app capture.state → capture ≡ captured_over own (capture.number, row)
unfolding captured_over
capture_is own capture row state shown = λ k. record { number = capture.number; state = state k; shown = shown_is k }
  where
    shown_is : capture.shown ≡ shown_over own (state_of_words row).app (state_of_words row)
    shown_is = shown ∙ ap (λ (s : State). shown_over own s.app s) state

pub capture_of_own : (own before : Option Numbered) (pass after : AppView) (capture : Capture) → pass.own ≡ own
    → (captured : HasCaptured pass after capture.number capture.state capture.shown) → capture ≡ captured_over own (capture.number, captured.row)
capture_of_own own before pass after capture own_is captured =
    capture_is own capture captured.row captured.state_is (captured.shown_is ∙ ap (λ (o : Option Numbered). shown_over o capture.state.app capture.state) own_is)

-- ---- seats at a look

seat_at_look : (own : Option Numbered) (t : ℕ) (done : List Deed) (at : ℤ) (pair : ℕ × List ℕ) (sight : Sight) → seat_in own t (looking at pair sight ∷ done) ≡ seat_in own t done
unfolding seat_in seat_after
seat_at_look own t done at pair sight = refl

-- where no line waits in any seat that is kept, none does
pub none_waits : (own : Option Numbered) (done : List Deed) (seats : List Seat) → length seats ≡ 15
    → ((t : ℕ) (seat : Seat) → slice_get seats t ≡ Some seat → IsSeat (seat_in own t done) seat) → NoneWaits own done
none_waits own done seats count all = λ t few. at_place t (there seats t (omega (arith, count, few)))
  where
    there : (xs : List Seat) (t : ℕ) → suc t ≤ length xs → (seat : Seat) × (slice_get xs t ≡ Some seat)
    there [] t few = absurd (omega (arith, few))
    there (x ∷ xs) zero few = (x, refl)
    there (x ∷ xs) (suc t) few = there xs t (omega (arith, few))

    at_place : (t : ℕ) → (seat : Seat) × (slice_get seats t ≡ Some seat) → (seat_in own t done).waiting ≡ []
    at_place t found = (all t found.0 found.1).waiting

-- ---- the look

-- a moment as it is stored
pub stored_moment : (z : ℤ) → IsMoment z → to_z w64 (of_z w64 z) ≡ z
stored_moment z range = to_z-of_z w64 z (moment_fits z range)
  where
    moment_fits : (z : ℤ) → IsMoment z → FitsSigned w64 z
    moment_fits z range = grind (arith, ints)

module _ (terms : Terms) (late : Option ℤ) (start now : TalksSeen) (first pass after : AppView) (hall : Hall) (asked at : ℤ) (capture : Capture) (sight : Sight)
    (captured : HasCaptured pass after capture.number capture.state capture.shown) (asked_is : asked ≡ hall.last) (paced : IsPaced late asked at) where
  abbrev deed : Deed
  deed = looking at (capture.number, captured.row) sight

  used_then : (done : List Deed) → IsHosting terms late start now first pass hall done → HasUsed first after (pairs_in (deed ∷ done)) (commits_in first.own (deed ∷ done))
  unfolding pairs_in commits_in
  used_then done was = used_captured first pass after (pairs_in done) (commits_in first.own done) capture.number capture.state capture.shown was.used captured

  own_then : (done : List Deed) → IsHosting terms late start now first pass hall done → after.own ≡ own_in first.own (deed ∷ done)
  unfolding own_in
  own_then done was = ap (λ (v : AppView). v.own) captured.others_stay ∙ was.own

  newest_then : (done : List Deed) → IsHosting terms late start now first pass hall done → Some capture ≡ newest_in first.own (deed ∷ done)
  unfolding newest_in
  newest_then done was = ap Some (capture_of_own (own_in first.own done) first.own pass after capture was.own captured)

  may : (done : List Deed) → IsHosting terms late start now first pass hall done → IsPaced late (last_in done) at
  may done was = subst (λ (z : ℤ). IsPaced late z at) (asked_is ∙ was.last) paced

  nothing_passed : (done : List Deed) → Passes now.passed (passed_by terms.may_end first.own done deed) now.passed
  unfolding passed_by
  nothing_passed done = passes_none now.passed

  seats_then : (seats : List Seat) (done : List Deed) → ((t : ℕ) (seat : Seat) → slice_get seats t ≡ Some seat → IsSeat (seat_in first.own t done) seat)
      → (t : ℕ) (seat : Seat) → slice_get seats t ≡ Some seat → IsSeat (seat_in first.own t (deed ∷ done)) seat
  seats_then seats done all t seat there =
      subst (λ (v : SeatView). IsSeat v seat) (sym (seat_at_look first.own t done at (capture.number, captured.row) sight)) (all t seat there)

  pub looked : (hall_then : Hall) → (terms.ends_at ≤ℤ at → ⊥) → sight.full ≡ false → hall_then.last ≡ at → hall_then.newest ≡ Some capture → sight_of hall_then.sighted ≡ sight
      → hall_then.seats.items ≡ hall.seats.items → Stands terms late start now first pass hall → Stands terms late start now first after hall_then
  unfolding last_in sight_in
  looked hall_then early room last newest sight_is seats was = record {
    done = deed ∷ was.done;
    hosting = one_more terms late start now now first pass after hall was.done deed hall_then was.hosting (may was.done was.hosting) (nothing_passed was.done) refl refl
        (used_then was.done was.hosting) (own_then was.done was.hosting) last (newest ∙ newest_then was.done was.hosting) sight_is
        (λ over. ⊎_elim early (λ (full : sight.full ≡ true). cc (room, full)) over);
    seats = λ t seat there. seats_then hall.seats.items was.done was.seats t seat (subst (λ (l : List Seat). slice_get l t ≡ Some seat) seats there);
  }

  ended_at_look : (ended : HostEnd) → length hall.seats.items ≡ 15 → ((done : List Deed) → now.faults ≡ start.faults → EndsHosting terms start now (deed ∷ done) ended)
      → Stands terms late start now first pass hall → HasStopped terms late start now first after ended
  ended_at_look ended count ends was = (
    deed ∷ was.done,
    ends_by terms late start now now first pass after hall was.done deed ended was.hosting (may was.done was.hosting) (nothing_passed was.done) refl
        (used_then was.done was.hosting) (own_then was.done was.hosting) (ends was.done was.hosting.quiet)
        (λ between. none_waits first.own (deed ∷ was.done) hall.seats.items count (seats_then hall.seats.items was.done was.seats)),
  )

  pub ended_full : length hall.seats.items ≡ 15 → sight.full ≡ true → Stands terms late start now first pass hall → HasStopped terms late start now first after end.Full
  ended_full count full was = ended_at_look end.Full count (λ done quiet. (quiet, (at, (capture.number, captured.row), sight, done, refl, full))) was

  pub ended_late : length hall.seats.items ≡ 15 → terms.ends_at ≤ℤ at → Stands terms late start now first pass hall → HasStopped terms late start now first after end.Hours
  ended_late count late_enough was = ended_at_look end.Hours count (λ done quiet. (quiet, (at, (capture.number, captured.row), sight, done, refl, late_enough))) was

  -- it goes on, or ends there
  pub looked_to : (hall_then : Hall) (full_then : Bool) (ends_at at_then : ℤ) (ended : Option HostEnd) → IsEndAt full_then ends_at at_then ended → full_then ≡ sight.full → ends_at ≡ terms.ends_at
      → at_then ≡ at → length hall.seats.items ≡ 15 → hall_then.last ≡ at → hall_then.newest ≡ Some capture → sight_of hall_then.sighted ≡ sight → hall_then.seats.items ≡ hall.seats.items
      → Stands terms late start now first pass hall → GoesOn terms late start now first after hall_then ended
  looked_to hall_then full_then ends_at at_then None is full_is ends_is at_is count last newest sight_is seats was =
      looked hall_then (λ (over : terms.ends_at ≤ℤ at). is.1 (subst (λ (x : ℤ × ℤ). x.0 ≤ℤ x.1) (λ i. (sym ends_is i, sym at_is i)) over)) (sym full_is ∙ is.0) last newest sight_is seats was
  looked_to hall_then full_then ends_at at_then (Some end.Deaf) is full_is ends_is at_is count last newest sight_is seats was = absurd is
  looked_to hall_then full_then ends_at at_then (Some end.Closed) is full_is ends_is at_is count last newest sight_is seats was = absurd is
  looked_to hall_then full_then ends_at at_then (Some end.Hours) is full_is ends_is at_is count last newest sight_is seats was =
      ended_late count (subst (λ (x : ℤ × ℤ). x.0 ≤ℤ x.1) (λ i. (ends_is i, at_is i)) is) was
  looked_to hall_then full_then ends_at at_then (Some end.Full) is full_is ends_is at_is count last newest sight_is seats was = ended_full count (sym full_is ∙ is) was
  looked_to hall_then full_then ends_at at_then (Some end.Asked) is full_is ends_is at_is count last newest sight_is seats was = absurd is
  looked_to hall_then full_then ends_at at_then (Some end.Failed) is full_is ends_is at_is count last newest sight_is seats was = absurd is
  looked_to hall_then full_then ends_at at_then (Some end.Memory) is full_is ends_is at_is count last newest sight_is seats was = absurd is

-- no memory was left for the capture
pub no_memory : (terms : Terms) (late : Option ℤ) (start now : TalksSeen) (first pass after : AppView) (hall : Hall) → after ≡ pass → Stands terms late start now first pass hall
    → HasStopped terms late start now first after end.Memory
no_memory terms late start now first pass after hall same was =
    subst (λ (v : AppView). HasStopped terms late start now first v end.Memory) (sym same)
    (was.done, ends_there terms late start now now first pass hall was.done end.Memory was.hosting refl refl was.hosting.quiet (λ none. absurd none))
