-- What may be done after what.
use Rattle.std.specs.Prelude.{◌≡◌, ◌≢◌, ◌⊎◌, ◌<◌, ℕ, ℤ, pos, ◌+ℤ◌, ◌≤ℤ◌, true, false, List, [], ◌∷◌, Option, Some, IfNone}
use Rattle.lk_outside.specs.Pace.{IsPaced}
use Rattle.link_shared.specs.declared.capture.Capture.{Capture}
use Rattle.link_asks.specs.Asks.{IsAsked}
use Rattle.link_asks.specs.Reasons.{IsReason}
use Rattle.link_asks.specs.Views.{shown_view_of}
use Rattle.link_asks.specs.declared.ask.Ask.TheVariants.{End}
use Rattle.link_control.specs.Log.{Numbered}
use Rattle.link_clients.specs.Deeds.{Deed, Line, answering, dropping, hearing, joining, last_in, leaving, looking, newest_in, telling}
use Rattle.link_clients.specs.Seats.{clients_from, seat_in}
use Rattle.link_clients.specs.declared.terms.Terms.{Terms}

-- Rule: Serving is over once the moment has come at which it ends, the journal takes nothing more, or a client asked for the end that may.
abbrev pub IsOver : Terms → List Deed → Type 0
IsOver terms [] = ⊥
IsOver terms (looking at pair sight ∷ done) = (terms.ends_at ≤ℤ at) ⊎ (sight.full ≡ true)
IsOver terms (joining seat ∷ done) = ⊥
IsOver terms (hearing seat bytes ∷ done) = ⊥
IsOver terms (answering line how ∷ done) = (terms.may_end ≡ true) × (line.asked ≡ Some End)
IsOver terms (telling seat how ∷ done) = ⊥
IsOver terms (leaving seat ∷ done) = ⊥
IsOver terms (dropping seat ∷ done) = ⊥

-- the client in a seat is there, and no line of it waits
pub record IsQuiet (own : Option Numbered) (seat : ℕ) (done : List Deed) : Type 0 where
  pub among : seat < 15
  pub here : (seat_in own seat done).here ≡ true
  pub none_waits : (seat_in own seat done).waiting ≡ []

-- Rule: A client is heard only while no line of any client waits: its whole lines are answered before more is heard.
abbrev pub NoneWaits : Option Numbered → List Deed → Type 0
NoneWaits own done = (seat : ℕ) → seat < 15 → (seat_in own seat done).waiting ≡ []

-- Rule: Of the lines of a client that wait the first is answered, by what it asks for.
pub record IsNextLine (late : Option ℤ) (own : Option Numbered) (done : List Deed) (line : Line) : Type 0 where
  pub among : line.seat < 15
  pub here : (seat_in own line.seat done).here ≡ true
  pub behind : List (List ℕ)
  pub first : (seat_in own line.seat done).waiting ≡ line.line ∷ behind
  pub asked : IsAsked line.line line.asked
  pub reason : IfNone line.asked (IsReason line.line line.reason)
  pub paced : IsPaced late (last_in done) line.at
  pub clients : line.clients ≡ clients_from own done 0 15

-- Rule: A client that watches is told what was captured last, where it wasn't told that already, and not within 5 milliseconds after it was
-- told something.
pub record IsNews (own : Option Numbered) (done : List Deed) (seat : ℕ) : Type 0 where
  pub quiet : IsQuiet own seat done
  pub watching : (seat_in own seat done).watching ≡ true
  pub newest : Capture
  pub newest_is : newest_in own done ≡ Some newest
  pub differs : (seat_in own seat done).told ≢ Some (shown_view_of newest.shown)
  pub spaced : ((seat_in own seat done).told_at +ℤ pos 5_000) ≤ℤ last_in done

-- Rule: A client is let go only where nothing was heard of it for ten minutes.
pub record IsSilent (own : Option Numbered) (done : List Deed) (seat : ℕ) : Type 0 where
  pub quiet : IsQuiet own seat done
  pub silent : ((seat_in own seat done).heard_at +ℤ pos 600_000_000) ≤ℤ last_in done

-- what a deed needs of the history before it
abbrev pub MayFollow : Option ℤ → Option Numbered → List Deed → Deed → Type 0
MayFollow late own done (looking at pair sight) = IsPaced late (last_in done) at
MayFollow late own done (joining seat) = (seat < 15) × ((seat_in own seat done).here ≡ false)
MayFollow late own done (hearing seat bytes) = IsQuiet own seat done × NoneWaits own done
MayFollow late own done (answering line how) = IsNextLine late own done line
MayFollow late own done (telling seat how) = IsNews own done seat
MayFollow late own done (leaving seat) = IsQuiet own seat done
MayFollow late own done (dropping seat) = IsSilent own done seat

-- each deed of a history may follow those before it, and none follows where serving is over
abbrev pub AreLawful : Terms → Option ℤ → Option Numbered → List Deed → Type 0
AreLawful terms late own [] = Unit {0}
AreLawful terms late own (deed ∷ done) = MayFollow late own done deed × (IsOver terms done → ⊥) × AreLawful terms late own done
