-- Only for proofs: how far serving is, between the clients and what is kept of them.
use Rattle.std.specs.Prelude.{◌≡◌, ◌≢◌, ◌⊎◌, ℕ, ℤ, pos, ◌+◌, ◌+ℤ◌, ◌≤ℤ◌, Bool, true, false, if◌then◌else◌, List, [], ◌∷◌, ◌++◌, take, Option, Some, None, slice_get}
use Rattle.lk_outside.specs.Pace.{IsPaced}
use Rattle.lk_talks.specs.Talks.{Passes, TalksSeen}
use Rattle.lk_talks.specs.declared.talks.Admitted.{Admitted}
use Rattle.lk_talks.specs.declared.talks.Admitted.TheVariants as admitted
use Rattle.lk_talks.specs.declared.talks.Said.{Said}
use Rattle.lk_talks.specs.declared.talks.Said.TheVariants as said
use Rattle.link_shared.specs.Passes.{AppView, HasCaptured}
use Rattle.link_asks.specs.Answers.{Facts}
use Rattle.link_asks.specs.declared.view.View.{View}
use Rattle.link_asks.specs.declared.ask.Ask.{Ask}
use Rattle.link_asks.specs.declared.ask.Ask.TheVariants.{End}
use Rattle.link_control.specs.Log.{Numbered}
use Rattle.link_control.specs.Serving.{HasUsed}
use Rattle.link_control.specs.ServingNow.{HasMade, number_of}
use Rattle.link_clients.specs.Edits.{commit_asked}
use Rattle.link_clients.specs.Deeds.{Deed, Sight, commits_in, last_in, newest_in, own_in, pairs_in, passed_in, sight_in}
use Rattle.link_clients.specs.Hosting.{HasHosted}
use Rattle.link_clients.specs.Lawful.{AreLawful, IsOver}
use Rattle.link_clients.specs.Seats.{SeatView, lines_from, nobody, rest_from, seat_in}
use Rattle.link_clients.specs.declared.hall.Hall.{Hall}
use Rattle.link_clients.specs.declared.lookout.Sighted.{Sighted}
use Rattle.link_clients.specs.declared.piece.Going.{Going}
use Rattle.link_clients.specs.declared.piece.Going.TheVariants as going
use Rattle.link_clients.specs.declared.piece.Made.{Made}
use Rattle.link_clients.specs.declared.seat.Seat.{Seat}
use Rattle.link_clients.specs.declared.terms.HostEnd.{HostEnd}
use Rattle.link_clients.specs.declared.terms.HostEnd.TheVariants as end
use Rattle.link_clients.specs.declared.terms.Terms.{Terms}

abbrev pub sight_of : Sighted → Sight
sight_of sighted = record { gates = sighted.gates.items; full = sighted.full }

-- how many of these seats have a client
unfoldable pub heres_in : List Seat → ℕ
heres_in [] = 0
heres_in (seat ∷ seats) = (if seat.here then 1 else 0) + heres_in seats

-- ---- a seat

-- this is kept of a seat, but for its lines
pub record IsSeated (view : SeatView) (seat : Seat) : Type 0 where
  pub here : view.here ≡ seat.here
  pub watching : view.watching ≡ seat.watching
  pub told : view.told ≡ seat.told
  pub told_at : view.told_at ≡ seat.told_at
  pub heard_at : view.heard_at ≡ seat.heard_at

-- no line waits, and of the rest the first 130 bytes are kept
pub record IsSeat (view : SeatView) (seat : Seat) : Type 0 where
  pub seated : IsSeated view seat
  pub waiting : view.waiting ≡ []
  pub rest : seat.line.items ≡ take 130 view.rest

-- of what was heard last, these bytes are left
pub record IsSeatAmid (view : SeatView) (seat : Seat) (left : List ℕ) : Type 0 where
  pub seated : IsSeated view seat
  pub front : List ℕ
  pub line : seat.line.items ≡ take 130 front
  pub waiting : view.waiting ≡ lines_from front left
  pub rest : view.rest ≡ rest_from front left

-- each seat but this one
abbrev pub AreSeatsBut : ℕ → Option Numbered → List Deed → List Seat → Type 0
AreSeatsBut s own done seats =
    (t : ℕ) (seat : Seat) → t ≢ s → slice_get seats t ≡ Some seat → IsSeat (seat_in own t done) seat

-- ---- so far

-- What was done so far from a pass, and what is kept of it, but for the seats
pub record IsHosting (terms : Terms) (late : Option ℤ) (start now : TalksSeen) (first pass : AppView) (hall : Hall) (done : List Deed) : Type 0 where
  pub lawful : AreLawful terms late first.own done
  pub passed : Passes start.passed (passed_in terms.may_end first.own done) now.passed
  pub opened : now.opened ≡ start.opened
  pub quiet : now.faults ≡ start.faults
  pub used : HasUsed first pass (pairs_in done) (commits_in first.own done)
  pub own : pass.own ≡ own_in first.own done
  pub last : hall.last ≡ last_in done
  pub newest : hall.newest ≡ newest_in first.own done
  pub sight : sight_of hall.sighted ≡ sight_in done
  pub goes_on : IsOver terms done → ⊥

-- and of the seats: no line waits
pub record Stands (terms : Terms) (late : Option ℤ) (start now : TalksSeen) (first pass : AppView) (hall : Hall) : Type 0 where
  pub done : List Deed
  pub hosting : IsHosting terms late start now first pass hall done
  pub seats : (t : ℕ) (seat : Seat) → slice_get hall.seats.items t ≡ Some seat → IsSeat (seat_in first.own t done) seat

-- and of the seats: what was heard of the client in this seat is answered up to these bytes
pub record StandsAmid (terms : Terms) (late : Option ℤ) (start now : TalksSeen) (first pass : AppView) (hall : Hall) (s : ℕ) (left : List ℕ) : Type 0 where
  pub done : List Deed
  pub hosting : IsHosting terms late start now first pass hall done
  pub others : AreSeatsBut s first.own done hall.seats.items
  pub seat : Seat
  pub there : slice_get hall.seats.items s ≡ Some seat
  pub here : seat.here ≡ true
  pub amid : IsSeatAmid (seat_in first.own s done) seat left

-- serving ended so
abbrev pub HasStopped : Terms → Option ℤ → TalksSeen → TalksSeen → AppView → AppView → HostEnd → Type 0
HasStopped terms late start now first pass end = (done : List Deed) × HasHosted terms late start now first pass done end

-- serving goes on, or it ended
abbrev pub GoesOn : Terms → Option ℤ → TalksSeen → TalksSeen → AppView → AppView → Hall → Option HostEnd → Type 0
GoesOn terms late start now first pass hall None = Stands terms late start now first pass hall
GoesOn terms late start now first pass hall (Some end) = HasStopped terms late start now first pass end

-- wherever serving stood, it goes on or ended
abbrev pub Hosts : Terms → Option ℤ → TalksSeen → TalksSeen → AppView → AppView → Hall → Hall → Option HostEnd → Type 0
Hosts terms late now now_then pass pass_then hall hall_then ended =
    (start : TalksSeen) (first : AppView) → Stands terms late start now first pass hall
    → GoesOn terms late start now_then first pass_then hall_then ended

-- the client goes on, it is gone, or serving ended
abbrev pub GoesOnAmid : Terms → Option ℤ → TalksSeen → TalksSeen → AppView → AppView → Hall → ℕ → List ℕ → Going → Type 0
GoesOnAmid terms late start now first pass hall s left going.On = StandsAmid terms late start now first pass hall s left
GoesOnAmid terms late start now first pass hall s left going.Gone = Stands terms late start now first pass hall
GoesOnAmid terms late start now first pass hall s left (going.Over end) = HasStopped terms late start now first pass end

-- wherever serving stood amid what was heard of the client in this seat, these bytes are taken
abbrev pub Takes : Terms → Option ℤ → TalksSeen → TalksSeen → AppView → AppView → Hall → Hall → ℕ → List ℕ → Going → Type 0
Takes terms late now now_then pass pass_then hall hall_then s bytes went =
    (start : TalksSeen) (first : AppView) (left : List ℕ) → StandsAmid terms late start now first pass hall s (bytes ++ left)
    → GoesOnAmid terms late start now_then first pass_then hall_then s left went

-- nobody is there, and nothing was done
pub record IsFresh (hall : Hall) : Type 0 where
  pub free : (t : ℕ) (seat : Seat) → slice_get hall.seats.items t ≡ Some seat → IsSeat nobody seat
  pub last : hall.last ≡ pos 0
  pub newest : hall.newest ≡ None
  pub sight : sight_of hall.sighted ≡ record { gates = []; full = false }

-- ---- what is done for a line

-- the pace was asked, and this captured and committed, for a line that asks for this
pub record IsMade (late : Option ℤ) (last : ℤ) (before after : AppView) (asked : Option Ask) (made : Made) : Type 0 where
  pub between : AppView
  pub paced : IsPaced late last made.at
  pub captured : HasCaptured before between made.capture.number made.capture.state made.capture.shown
  pub pushed : HasMade between after made.commit
  pub commit_is : made.commit ≡ commit_asked asked (number_of made.commit) made.at made.capture

-- what the answer to it is made of
abbrev pub facts_made : Hall → Bool → Made → Facts
facts_made hall may_end made = record {
  published = made.capture.number;
  shown = made.capture.shown;
  at = made.at;
  number = number_of made.commit;
  clients = heres_in hall.seats.items;
  gates = hall.sighted.gates.items;
  may_end = may_end;
}

-- whether a line asks for an end that may be asked for
abbrev pub AsksEnd : Terms → Option Ask → Type 0
AsksEnd terms asked = (terms.may_end ≡ true) × (asked ≡ Some End)

-- how it goes on once its answer was taken, or wasn't
abbrev pub IsGoing : Terms → Option Ask → Said → Going → Type 0
IsGoing terms asked said.Failed went = went ≡ going.Over end.Failed
IsGoing terms asked said.Left went = (AsksEnd terms asked × (went ≡ going.Over end.Asked)) ⊎ ((AsksEnd terms asked → ⊥) × (went ≡ going.Gone))
IsGoing terms asked said.Taken went = (AsksEnd terms asked × (went ≡ going.Over end.Asked)) ⊎ ((AsksEnd terms asked → ⊥) × (went ≡ going.On))

-- a client is in this seat
abbrev pub IsHere : Hall → ℕ → Type 0
IsHere hall s = (seat : Seat) × (slice_get hall.seats.items s ≡ Some seat) × (seat.here ≡ true)

-- nobody is in this seat
abbrev pub IsFreeIn : List Seat → ℕ → Type 0
IsFreeIn seats s = (seat : Seat) × (slice_get seats s ≡ Some seat) × (seat.here ≡ false)

-- nothing was heard of the client in this seat for ten minutes
abbrev pub IsSilentIn : Hall → ℕ → Type 0
IsSilentIn hall s =
    (seat : Seat) × (slice_get hall.seats.items s ≡ Some seat) × (seat.here ≡ true) × ((seat.heard_at +ℤ pos 600_000_000) ≤ℤ hall.last)

-- the client in this seat watches, and wasn't told anything within 5 milliseconds
abbrev pub IsWatchingIn : Hall → ℕ → Type 0
IsWatchingIn hall s =
    (seat : Seat) × (slice_get hall.seats.items s ≡ Some seat) × (seat.here ≡ true) × (seat.watching ≡ true)
    × ((seat.told_at +ℤ pos 5_000) ≤ℤ hall.last)

-- the client in this seat watches, wasn't told this, and nothing within 5 milliseconds
pub record IsWatchedIn (hall : Hall) (s : ℕ) (view : View) : Type 0 where
  pub seat : Seat
  pub there : slice_get hall.seats.items s ≡ Some seat
  pub here : seat.here ≡ true
  pub watching : seat.watching ≡ true
  pub differs : seat.told ≢ Some view
  pub spaced : (seat.told_at +ℤ pos 5_000) ≤ℤ hall.last

-- ---- ends

-- how serving ends at a look, if it does
abbrev pub IsEndAt : Bool → ℤ → ℤ → Option HostEnd → Type 0
IsEndAt full ends_at at None = (full ≡ false) × (ends_at ≤ℤ at → ⊥)
IsEndAt full ends_at at (Some end.Deaf) = ⊥
IsEndAt full ends_at at (Some end.Closed) = ⊥
IsEndAt full ends_at at (Some end.Hours) = ends_at ≤ℤ at
IsEndAt full ends_at at (Some end.Full) = full ≡ true
IsEndAt full ends_at at (Some end.Asked) = ⊥
IsEndAt full ends_at at (Some end.Failed) = ⊥
IsEndAt full ends_at at (Some end.Memory) = ⊥

-- how serving ends at an admission, at a client that is let go, or where something is said, if it does
abbrev pub end_of_admitting : Admitted → Option HostEnd
end_of_admitting admitted.Came = None
end_of_admitting admitted.Nobody = None
end_of_admitting admitted.Failed = Some end.Failed

abbrev pub end_of_shutting : Bool → Option HostEnd
end_of_shutting true = None
end_of_shutting false = Some end.Failed

abbrev pub end_of_saying : Said → Option HostEnd
end_of_saying said.Taken = None
end_of_saying said.Left = None
end_of_saying said.Failed = Some end.Failed

-- ---- a client that is heard

-- something is heard of the client in this seat
pub record IsMarked (hall hall_then : Hall) (s : ℕ) : Type 0 where
  pub marked : (seat : Seat) → slice_get hall.seats.items s ≡ Some seat
      → slice_get hall_then.seats.items s ≡ Some (record seat { heard_at = hall.last; eager = 0 })
  pub others : (t : ℕ) → t ≢ s → slice_get hall_then.seats.items t ≡ slice_get hall.seats.items t
  pub last : hall_then.last ≡ hall.last
  pub newest : hall_then.newest ≡ hall.newest
  pub sighted : hall_then.sighted ≡ hall.sighted
