-- A client that comes, is heard, is told what is shown, leaves, or is let go.
use Rattle.std.proofs.Common.{◌≡◌, ◌≢◌, refl, sym, ◌∙◌, ap, subst, ℕ, ◌<◌, ℤ, pos, ◌+ℤ◌, ◌≤ℤ◌, Bool, true, false, List, [], ◌∷◌, ◌++◌, length, Option, Some, None, append-nil}
use Rattle.std.specs.Prelude.{slice_get}
use Rattle.lk_talks.specs.Talks.{Passes, TalksSeen, comes, hears, leaves, passed_in_saying, shuts}
use Rattle.lk_talks.specs.declared.talks.Admitted.{Admitted}
use Rattle.lk_talks.specs.declared.talks.Admitted.TheVariants as admitted
use Rattle.lk_talks.specs.declared.talks.Said.{Said}
use Rattle.lk_talks.specs.declared.talks.Said.TheVariants as said
use Rattle.link_shared.specs.Passes.{AppView}
use Rattle.link_shared.specs.declared.capture.Capture.{Capture}
use Rattle.link_asks.specs.Answers.{changed_text_of}
use Rattle.link_asks.specs.Views.{shown_view_of}
use Rattle.link_asks.specs.declared.view.View.{View}
use Rattle.link_clients.specs.Deeds.{dropping, hearing, joining, last_in, leaving, newest_in, passed_by, telling, told_of}
use Rattle.link_clients.specs.Lawful.{IsNews, IsQuiet}
use Rattle.link_clients.specs.Seats.{SeatView, heard_of, newcomer_at, nobody, seat_after, seat_in, told_at_of}
use Rattle.link_clients.specs.Standing.{GoesOn, IsSeat, IsSeatAmid, IsSeated, Stands, StandsAmid, end_of_admitting, end_of_saying, sight_of}
use Rattle.link_clients.specs.declared.hall.Hall.{Hall}
use Rattle.link_clients.specs.declared.seat.Seat.{Seat}
use Rattle.link_clients.specs.declared.terms.Terms.{Terms}
use Rattle.link_clients.proofs.DeedLemmas.{dropped, heard, joined, left, told}
use Rattle.link_clients.proofs.LookLemmas.{none_waits}
use Rattle.link_clients.proofs.SeatLemmas.{all_but, but_and, if_other, if_same, others_stay}

module _ (terms : Terms) (late : Option ℤ) (start now now_then : TalksSeen) (first pass : AppView) (hall hall_then : Hall) (s : ℕ) (seat seat_then : Seat)
    (few : s < 15) (opened : now_then.opened ≡ now.opened) (quiet : now_then.faults ≡ now.faults)
    (last : hall_then.last ≡ hall.last) (newest : hall_then.newest ≡ hall.newest) (sight : sight_of hall_then.sighted ≡ sight_of hall.sighted)
    (there : slice_get hall.seats.items s ≡ Some seat) (there_then : slice_get hall_then.seats.items s ≡ Some seat_then)
    (same : (t : ℕ) → (t ≡ s → ⊥) → slice_get hall_then.seats.items t ≡ slice_get hall.seats.items t)
    (was : Stands terms late start now first pass hall) where
  abbrev kept : IsSeat (seat_in first.own s was.done) seat
  kept = was.seats s seat there

  quiet_seat : seat.here ≡ true → IsQuiet first.own s was.done
  quiet_seat here = record { among = few; here = kept.seated.here ∙ here; none_waits = kept.waiting }

  -- a free seat is given
  pub came : seat.here ≡ false → Passes now.passed (comes s ∷ []) now_then.passed → IsSeat (newcomer_at hall.last) seat_then → Stands terms late start now_then first pass hall_then
  unfolding seat_in seat_after passed_by
  came free passed is = record {
    done = joining s ∷ was.done;
    hosting = joined terms late start now now_then first pass hall hall_then was.done was.hosting opened quiet last newest sight s (few, kept.seated.here ∙ free) passed;
    seats = but_and s first.own (joining s ∷ was.done) hall_then.seats.items seat_then
        (others_stay s first.own was.done (joining s) hall.seats.items hall_then.seats.items (λ t other. if_other s t _ _ (λ e. other (sym e))) same
        (all_but s first.own was.done hall.seats.items was.seats)) there_then
        (subst (λ (v : SeatView). IsSeat v seat_then)
        (sym (if_same s (newcomer_at (last_in was.done)) (seat_in first.own s was.done) ∙ ap newcomer_at (sym was.hosting.last))) is);
  }

  -- the client left
  pub went : seat.here ≡ true → Passes now.passed (leaves s ∷ []) now_then.passed → IsSeat nobody seat_then → Stands terms late start now_then first pass hall_then
  unfolding seat_in seat_after passed_by
  went here passed is = record {
    done = leaving s ∷ was.done;
    hosting = left terms late start now now_then first pass hall hall_then was.done was.hosting opened quiet last newest sight s (quiet_seat here) passed;
    seats = but_and s first.own (leaving s ∷ was.done) hall_then.seats.items seat_then
        (others_stay s first.own was.done (leaving s) hall.seats.items hall_then.seats.items (λ t other. if_other s t _ _ (λ e. other (sym e))) same
        (all_but s first.own was.done hall.seats.items was.seats)) there_then
        (subst (λ (v : SeatView). IsSeat v seat_then) (sym (if_same s nobody (seat_in first.own s was.done))) is);
  }

  -- it is let go
  pub let_go : seat.here ≡ true → (seat.heard_at +ℤ pos 600_000_000) ≤ℤ hall.last → Passes now.passed (shuts s ∷ []) now_then.passed → IsSeat nobody seat_then
      → Stands terms late start now_then first pass hall_then
  unfolding seat_in seat_after passed_by
  let_go here silent passed is = record {
    done = dropping s ∷ was.done;
    hosting = dropped terms late start now now_then first pass hall hall_then was.done was.hosting opened quiet last newest sight s
        (record {
          quiet = quiet_seat here;
          silent = subst (λ (x : ℤ × ℤ). (x.0 +ℤ pos 600_000_000) ≤ℤ x.1) (λ i. (sym kept.seated.heard_at i, was.hosting.last i)) silent;
        }) passed;
    seats = but_and s first.own (dropping s ∷ was.done) hall_then.seats.items seat_then
        (others_stay s first.own was.done (dropping s) hall.seats.items hall_then.seats.items (λ t other. if_other s t _ _ (λ e. other (sym e))) same
        (all_but s first.own was.done hall.seats.items was.seats)) there_then
        (subst (λ (v : SeatView). IsSeat v seat_then) (sym (if_same s nobody (seat_in first.own s was.done))) is);
  }

  -- bytes of it are heard
  pub heard_some : (bytes : List ℕ) → length hall.seats.items ≡ 15 → seat.here ≡ true → Passes now.passed (hears s bytes ∷ []) now_then.passed
      → seat_then.here ≡ true → seat_then.line.items ≡ seat.line.items
      → ((v : SeatView) → IsSeated v seat → IsSeated (heard_of hall.last bytes v) seat_then) → StandsAmid terms late start now_then first pass hall_then s (bytes ++ [])
  unfolding seat_in seat_after passed_by heard_of
  heard_some bytes count here passed here_then line seated =
      let all_bytes : bytes ++ [] ≡ bytes = append-nil bytes in
      subst (StandsAmid terms late start now_then first pass hall_then s) (sym all_bytes) (record {
        done = hearing s bytes ∷ was.done;
        hosting = heard terms late start now now_then first pass hall hall_then was.done was.hosting opened quiet last newest sight s bytes
            (quiet_seat here, none_waits first.own was.done hall.seats.items count was.seats) passed;
        others = others_stay s first.own was.done (hearing s bytes) hall.seats.items hall_then.seats.items (λ t other. if_other s t _ _ (λ e. other (sym e))) same
            (all_but s first.own was.done hall.seats.items was.seats);
        seat = seat_then;
        there = there_then;
        here = here_then;
        amid = subst (λ (v : SeatView). IsSeatAmid v seat_then bytes)
            (sym (if_same s (heard_of (last_in was.done) bytes (seat_in first.own s was.done)) (seat_in first.own s was.done)
            ∙ ap (λ (z : ℤ). heard_of z bytes (seat_in first.own s was.done)) (sym was.hosting.last)))
            (record {
              seated = seated (seat_in first.own s was.done) kept.seated;
              front = (seat_in first.own s was.done).rest;
              line = line ∙ kept.rest;
              waiting = refl;
              rest = refl;
            });
      })

  -- it is told what is shown
  module _ (view : View) (number : ℕ) (captured : Capture) (newest_is : hall.newest ≡ Some captured) (view_is : view ≡ shown_view_of captured.shown) (number_is : number ≡ captured.number)
      (here : seat.here ≡ true) (watching : seat.watching ≡ true) (differs : seat.told ≢ Some view) (spaced : (seat.told_at +ℤ pos 5_000) ≤ℤ hall.last) (text : List ℕ)
      (text_is : text ≡ changed_text_of view number) where
    is_news : IsNews first.own was.done s
    is_news = record {
      quiet = quiet_seat here;
      watching = kept.seated.watching ∙ watching;
      newest = captured;
      newest_is = sym was.hosting.newest ∙ newest_is;
      differs = λ e. differs (sym kept.seated.told ∙ e ∙ ap Some (sym view_is));
      spaced = subst (λ (x : ℤ × ℤ). (x.0 +ℤ pos 5_000) ≤ℤ x.1) (λ i. (sym kept.seated.told_at i, was.hosting.last i)) spaced;
    }

    text_so : text ≡ told_of (newest_in first.own was.done)
    unfolding told_of
    text_so =
        text_is
        ∙ (λ i. changed_text_of (view_is i) (number_is i))
        ∙ ap told_of (sym newest_is ∙ was.hosting.newest)

    told_so : (taken : Said) → Passes now.passed (passed_in_saying s text taken) now_then.passed → Passes now.passed (passed_by terms.may_end first.own was.done (telling s taken)) now_then.passed
    unfolding passed_by
    told_so taken passed = subst (λ (l : List ℕ). Passes now.passed (passed_in_saying s l taken) now_then.passed) text_so passed

    pub told_taken : Passes now.passed (passed_in_saying s text said.Taken) now_then.passed
        → ((v : SeatView) → IsSeat v seat → IsSeat (told_at_of (Some captured) hall.last v) seat_then) → Stands terms late start now_then first pass hall_then
    unfolding seat_in seat_after
    told_taken passed seated = record {
      done = telling s said.Taken ∷ was.done;
      hosting = told terms late start now now_then first pass hall hall_then was.done was.hosting opened quiet last newest sight s said.Taken is_news (told_so said.Taken passed);
      seats = but_and s first.own (telling s said.Taken ∷ was.done) hall_then.seats.items seat_then
          (others_stay s first.own was.done (telling s said.Taken) hall.seats.items hall_then.seats.items (λ t other. if_other s t _ _ (λ e. other (sym e))) same
          (all_but s first.own was.done hall.seats.items was.seats)) there_then
          (subst (λ (v : SeatView). IsSeat v seat_then)
          (sym (if_same s (told_at_of (newest_in first.own was.done) (last_in was.done) (seat_in first.own s was.done)) (seat_in first.own s was.done)
          ∙ (λ i. told_at_of ((sym was.hosting.newest ∙ newest_is) i) (sym was.hosting.last i) (seat_in first.own s was.done))))
          (seated (seat_in first.own s was.done) kept));
    }

    pub told_left : Passes now.passed (passed_in_saying s text said.Left) now_then.passed → IsSeat nobody seat_then → Stands terms late start now_then first pass hall_then
    unfolding seat_in seat_after
    told_left passed is = record {
      done = telling s said.Left ∷ was.done;
      hosting = told terms late start now now_then first pass hall hall_then was.done was.hosting opened quiet last newest sight s said.Left is_news (told_so said.Left passed);
      seats = but_and s first.own (telling s said.Left ∷ was.done) hall_then.seats.items seat_then
          (others_stay s first.own was.done (telling s said.Left) hall.seats.items hall_then.seats.items (λ t other. if_other s t _ _ (λ e. other (sym e))) same
          (all_but s first.own was.done hall.seats.items was.seats)) there_then
          (subst (λ (v : SeatView). IsSeat v seat_then) (sym (if_same s nobody (seat_in first.own s was.done))) is);
    }

-- ---- a seat as it is written

pub newcomer_seat : (at : ℤ) (seat : Seat) → (seat.here ≡ true) × (seat.watching ≡ false) → seat.line.items ≡ [] → (seat.told ≡ None) × (seat.told_at ≡ pos 0) × (seat.heard_at ≡ at) → IsSeat (newcomer_at at) seat
unfolding newcomer_at
newcomer_seat at seat flags line told = record {
  seated = record { here = sym flags.0; watching = sym flags.1; told = sym told.0; told_at = sym told.1; heard_at = sym told.2 };
  waiting = refl;
  rest = line;
}

pub free_seat : (seat : Seat) → (seat.here ≡ false) × (seat.watching ≡ false) → seat.line.items ≡ [] → (seat.told ≡ None) × (seat.told_at ≡ pos 0) × (seat.heard_at ≡ pos 0) → IsSeat nobody seat
unfolding nobody
free_seat seat flags line told = record {
  seated = record { here = sym flags.0; watching = sym flags.1; told = sym told.0; told_at = sym told.1; heard_at = sym told.2 };
  waiting = refl;
  rest = line;
}

-- ---- how it goes on

pub goes_came : (terms : Terms) (late : Option ℤ) (start now : TalksSeen) (first pass : AppView) (hall : Hall) (how : Admitted) → how ≡ admitted.Came
    → Stands terms late start now first pass hall → GoesOn terms late start now first pass hall (end_of_admitting how)
goes_came terms late start now first pass hall how is was = subst (λ (h : Admitted). GoesOn terms late start now first pass hall (end_of_admitting h)) (sym is) was

pub goes_said : (terms : Terms) (late : Option ℤ) (start now : TalksSeen) (first pass : AppView) (hall : Hall) (how : Said) → how ≡ said.Taken
    → Stands terms late start now first pass hall → GoesOn terms late start now first pass hall (end_of_saying how)
goes_said terms late start now first pass hall how is was = subst (λ (h : Said). GoesOn terms late start now first pass hall (end_of_saying h)) (sym is) was

pub goes_left : (terms : Terms) (late : Option ℤ) (start now : TalksSeen) (first pass : AppView) (hall : Hall) (how : Said) → how ≡ said.Left
    → Stands terms late start now first pass hall → GoesOn terms late start now first pass hall (end_of_saying how)
goes_left terms late start now first pass hall how is was = subst (λ (h : Said). GoesOn terms late start now first pass hall (end_of_saying h)) (sym is) was

-- what was said didn't fail
pub said_on : (terms : Terms) (late : Option ℤ) (start now : TalksSeen) (first pass : AppView) (hall : Hall) (how : Said) → (how ≡ said.Failed → ⊥)
    → GoesOn terms late start now first pass hall (end_of_saying how) → Stands terms late start now first pass hall
said_on terms late start now first pass hall said.Taken works goes = goes
said_on terms late start now first pass hall said.Left works goes = goes
said_on terms late start now first pass hall said.Failed works goes = absurd (works refl)

-- the seat of a client that was told this
pub told_seat : (v : SeatView) (seat seat_then : Seat) (view : View) (newest : Capture) (last : ℤ) → view ≡ shown_view_of newest.shown → (read : Seat) → read ≡ seat
    → seat_then.told ≡ Some view → seat_then.told_at ≡ last
    → (seat_then.here ≡ read.here) × (seat_then.watching ≡ read.watching) × (seat_then.line ≡ read.line) × (seat_then.heard_at ≡ read.heard_at)
    → IsSeat v seat → IsSeat (told_at_of (Some newest) last v) seat_then
unfolding told_at_of
told_seat v seat seat_then view newest last view_is read read_is told told_at stays is = record {
  seated = record {
    here = is.seated.here ∙ sym (ap (λ (x : Seat). x.here) read_is) ∙ sym stays.0;
    watching = is.seated.watching ∙ sym (ap (λ (x : Seat). x.watching) read_is) ∙ sym stays.1;
    told = ap Some (sym view_is) ∙ sym told;
    told_at = sym told_at;
    heard_at = is.seated.heard_at ∙ sym (ap (λ (x : Seat). x.heard_at) read_is) ∙ sym stays.3;
  };
  waiting = is.waiting;
  rest = (λ i. (stays.2 i).items) ∙ ap (λ (x : Seat). x.line.items) read_is ∙ is.rest;
}

pub not_both : (b : Bool) → b ≡ false → b ≡ true → ⊥
not_both b off on = cc (off, on)
