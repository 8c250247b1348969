-- What a history makes of a seat.
use Rattle.std.specs.Prelude.{ℕ, zero, suc, ℤ, pos, ◌+◌, ◌==◌, Bool, true, false, if◌then◌else◌, List, [], ◌∷◌, ◌++◌, drop, Option, Some, None, option_map}
use Rattle.lk_talks.specs.declared.talks.Said.{Said}
use Rattle.lk_talks.specs.declared.talks.Said.TheVariants as said
use Rattle.link_shared.specs.declared.capture.Capture.{Capture}
use Rattle.link_asks.specs.Views.{shown_view_of}
use Rattle.link_asks.specs.declared.ask.Ask.{Ask}
use Rattle.link_asks.specs.declared.ask.Ask.TheVariants.{Status, Now, Beat, Phase, Time, Tempo, Play, Stop, Force, Request, Quantum, Watch, Unwatch, Clients, Gates, End}
use Rattle.link_asks.specs.declared.view.View.{View}
use Rattle.link_control.specs.Log.{Numbered, captured_over}
use Rattle.link_clients.specs.Deeds.{Deed, answering, dropping, hearing, joining, last_in, leaving, looking, newest_in, own_in, telling}

-- Whether a client is there, and watches; its whole lines that wait for an answer, and what was heard behind the last line feed; what it
-- was told last of what is shown, and when; and when something was heard of it last.
pub record SeatView : Type 0 where
  pub here : Bool
  pub watching : Bool
  pub waiting : List (List ℕ)
  pub rest : List ℕ
  pub told : Option View
  pub told_at : ℤ
  pub heard_at : ℤ

unfoldable pub nobody : SeatView
nobody = record {
  here = false;
  watching = false;
  waiting = [];
  rest = [];
  told = None;
  told_at = pos 0;
  heard_at = pos 0;
}

unfoldable pub newcomer_at : ℤ → SeatView
newcomer_at at = record {
  here = true;
  watching = false;
  waiting = [];
  rest = [];
  told = None;
  told_at = pos 0;
  heard_at = at;
}

-- ---- lines

-- the whole lines of bytes that follow on these
unfoldable pub lines_from : List ℕ → List ℕ → List (List ℕ)
lines_from front [] = []
lines_from front (b ∷ bytes) = if b == 10 then front ∷ lines_from [] bytes else lines_from (front ++ b ∷ []) bytes

-- what stands behind the last line feed
unfoldable pub rest_from : List ℕ → List ℕ → List ℕ
rest_from front [] = front
rest_from front (b ∷ bytes) = if b == 10 then rest_from [] bytes else rest_from (front ++ b ∷ []) bytes

unfoldable pub heard_of : ℤ → List ℕ → SeatView → SeatView
heard_of at bytes seat = record seat { waiting = lines_from seat.rest bytes; rest = rest_from seat.rest bytes; heard_at = at }

-- ---- watching

-- whether a line asks to be told of changes, or of none
abbrev pub watch_asked : Option Ask → Option Bool
watch_asked None = None
watch_asked (Some Status) = None
watch_asked (Some Now) = None
watch_asked (Some (Beat time)) = None
watch_asked (Some (Phase time)) = None
watch_asked (Some (Time beat)) = None
watch_asked (Some (Tempo mpb)) = None
watch_asked (Some (Play at)) = None
watch_asked (Some (Stop at)) = None
watch_asked (Some (Force beat at)) = None
watch_asked (Some (Request beat at)) = None
watch_asked (Some (Quantum quantum)) = None
watch_asked (Some Watch) = Some true
watch_asked (Some Unwatch) = Some false
watch_asked (Some Clients) = None
watch_asked (Some Gates) = None
watch_asked (Some End) = None

-- Rule: A client that asks to watch is told what is shown wherever that differs from what was shown when it asked, and then from what it
-- was told last.
unfoldable pub switched_of : Option Bool → View → SeatView → SeatView
switched_of None view seat = seat
switched_of (Some true) view seat = record seat { watching = true; told = Some view }
switched_of (Some false) view seat = record seat { watching = false }

-- the first line that waits is answered
unfoldable pub answered_of : Option Ask → View → SeatView → SeatView
answered_of asked view seat = switched_of (watch_asked asked) view (record seat { waiting = drop 1 seat.waiting })

unfoldable pub told_at_of : Option Capture → ℤ → SeatView → SeatView
told_at_of newest at seat = record seat { told = option_map (λ capture. shown_view_of capture.shown) newest; told_at = at }

-- ---- the whole

-- what saying something to a client leaves of its seat
abbrev pub if_said : Said → SeatView → SeatView
if_said said.Taken seat = seat
if_said said.Left seat = nobody
if_said said.Failed seat = nobody

-- what a deed after a history makes of a seat
unfoldable pub seat_after : Option Numbered → ℕ → List Deed → Deed → SeatView → SeatView
seat_after own s done (looking at pair sight) seat = seat
seat_after own s done (joining t) seat = if t == s then newcomer_at (last_in done) else seat
seat_after own s done (hearing t bytes) seat = if t == s then heard_of (last_in done) bytes seat else seat
seat_after own s done (answering line taken) seat =
    if line.seat == s
    then if_said taken (answered_of line.asked (shown_view_of (captured_over (own_in own done) line.pair).shown) seat)
    else seat
seat_after own s done (telling t taken) seat =
    if t == s then if_said taken (told_at_of (newest_in own done) (last_in done) seat) else seat
seat_after own s done (leaving t) seat = if t == s then nobody else seat
seat_after own s done (dropping t) seat = if t == s then nobody else seat

-- and a history
unfoldable pub seat_in : Option Numbered → ℕ → List Deed → SeatView
seat_in own s [] = nobody
seat_in own s (deed ∷ done) = seat_after own s done deed (seat_in own s done)

-- how many clients are there in n seats from s on
unfoldable pub clients_from : Option Numbered → List Deed → ℕ → ℕ → ℕ
clients_from own done s zero = 0
clients_from own done s (suc n) = (if (seat_in own s done).here then 1 else 0) + clients_from own done (s + 1) n
