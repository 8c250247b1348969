-- What is heard of a client, and a line of it that is answered.
use Rattle.std.proofs.Common.{FitsSigned, of_z, slice_index_or, to_z, w64, ◌≡◌, inl, inr, refl, sym, ◌∙◌, ap, subst, arith, ℕ, zero, suc, ◌+◌, ◌<◌, ℤ, pos, Bool, true, false, if◌then◌else◌, List, [], ◌∷◌, ◌++◌, length, take, drop, Option, Some, None, IfNone}
use Rattle.std.specs.Prelude.{slice_get, set}
use Rattle.std.proofs.lemmas.Int.{ints, to_z-of_z}
use Rattle.lk_base.specs.Ranges.{IsMoment}
use Rattle.lk_outside.specs.Faults.{Rose}
use Rattle.lk_outside.specs.Pace.{IsPaced}
use Rattle.lk_talks.specs.Talks.{HasSayCause, Passes, TalksSeen, passed_in_saying}
use Rattle.lk_talks.specs.declared.talks.Said.{Said}
use Rattle.lk_talks.specs.declared.talks.Said.TheVariants as said
use Rattle.link_shared.specs.Passes.{AppView, HasCaptured}
use Rattle.link_shared.specs.declared.capture.Capture.{Capture}
use Rattle.link_asks.specs.Answers.{answer_to}
use Rattle.link_asks.specs.Asks.{IsAsked}
use Rattle.link_asks.specs.Reasons.{IsReason}
use Rattle.link_asks.specs.Views.{shown_view_of}
use Rattle.link_asks.specs.declared.ask.Ask.{Ask}
use Rattle.link_asks.specs.declared.ask.Ask.TheVariants.{End}
use Rattle.link_asks.specs.declared.reason.Reason.{Reason}
use Rattle.link_asks.specs.declared.view.View.{View}
use Rattle.link_control.specs.Log.{Numbered, captured_over, own_after, put_before}
use Rattle.link_control.specs.Serving.{HasUsed}
use Rattle.link_control.specs.ServingNow.{HasMade, number_of}
use Rattle.link_control.proofs.UsedLemmas.{own_made, used_captured, used_made}
use Rattle.link_clients.specs.Deeds.{Deed, Line, Sight, answer_of_line, answering, commit_of_line, commits_in, facts_of_line, last_in, newest_in, own_in, pairs_in, passed_by, sight_in}
use Rattle.link_clients.specs.Edits.{commit_asked}
use Rattle.link_clients.specs.Hosting.{EndsBetween, EndsHosting}
use Rattle.link_clients.specs.Lawful.{IsNextLine}
use Rattle.link_clients.specs.Seats.{SeatView, answered_of, clients_from, lines_from, nobody, rest_from, seat_after, seat_in, switched_of, watch_asked}
use Rattle.link_clients.specs.Standing.{AreSeatsBut, GoesOnAmid, HasStopped, IsGoing, IsHosting, IsMade, IsSeat, IsSeatAmid, IsSeated, Stands, StandsAmid, facts_made, heres_in, sight_of}
use Rattle.link_clients.specs.declared.hall.Hall.{Hall}
use Rattle.link_clients.specs.declared.piece.Going.{Going}
use Rattle.link_clients.specs.declared.piece.Made.{Made}
use Rattle.link_clients.specs.declared.seat.Seat.{Seat}
use Rattle.link_clients.specs.declared.terms.HostEnd.{HostEnd}
use Rattle.link_clients.specs.declared.terms.HostEnd.TheVariants as end
use Rattle.link_clients.specs.declared.terms.Terms.{Terms}
use Rattle.link_clients.proofs.DeedLemmas.{ends_by, ends_there, one_more}
use Rattle.link_clients.proofs.LookLemmas.{capture_of_own}
use Rattle.link_clients.proofs.SeatLemmas.{but_and, by_number, get_other, get_set, if_other, if_same, others_stay, some_same}

-- ---- how many clients are there

none_plus : (k : ℕ) → 0 + k ≡ k
none_plus k = omega arith

plus_none : (s : ℕ) → s + 0 ≡ s
plus_none s = omega arith

plus_next : (s k : ℕ) → (s + 1) + k ≡ s + suc k
plus_next s k = omega arith

heres_are : (own : Option Numbered) (done : List Deed) (s n : ℕ) (seats : List Seat) → length seats ≡ n
    → ((k : ℕ) (seat : Seat) → slice_get seats k ≡ Some seat → (seat_in own (s + k) done).here ≡ seat.here) → heres_in seats ≡ clients_from own done s n
unfolding heres_in clients_from
heres_are own done s zero [] count all = refl
heres_are own done s zero (seat ∷ seats) count all = absurd (omega (arith, count))
heres_are own done s (suc n) [] count all = absurd (omega (arith, count))
heres_are own done s (suc n) (seat ∷ seats) count all =
    let here : (seat_in own s done).here ≡ seat.here = ap (λ (k : ℕ). (seat_in own k done).here) (sym (plus_none s)) ∙ all zero seat refl in
    ap (λ (b : Bool). (if b then 1 else 0) + heres_in seats) (sym here)
    ∙ ap (λ (m : ℕ). (if (seat_in own s done).here then 1 else 0) + m)
    (heres_are own done (s + 1) n seats (omega (arith, count)) (λ k other there. ap (λ (m : ℕ). (seat_in own m done).here) (plus_next s k) ∙ all (suc k) other there))

-- of seats of which all but one are kept, and that one is there
clients_amid : (own : Option Numbered) (done : List Deed) (s : ℕ) (seats : List Seat) (seat : Seat) → length seats ≡ 15 → AreSeatsBut s own done seats
    → slice_get seats s ≡ Some seat → IsSeated (seat_in own s done) seat → heres_in seats ≡ clients_from own done 0 15
clients_amid own done s seats seat count others there seated =
    heres_are own done 0 15 seats count
    (λ k other at. ap (λ (n : ℕ). (seat_in own n done).here) (none_plus k) ∙ by_number k s
    (λ same. ap (λ (n : ℕ). (seat_in own n done).here) same ∙ seated.here ∙ ap (λ (x : Seat). x.here) (some_same seat other (sym there ∙ ap (slice_get seats) (sym same) ∙ at)))
    (λ differs. (others k other differs at).seated.here))

-- ---- the lines of a piece

first_from : (front left : List ℕ) → lines_from front (10 ∷ left) ≡ front ∷ lines_from [] left
unfolding lines_from
first_from front left = refl

rest_after : (front left : List ℕ) → rest_from front (10 ∷ left) ≡ rest_from [] left
unfolding rest_from
rest_after front left = refl

lines_on : (front left : List ℕ) (b : ℕ) → (b ≡ 10 → ⊥) → lines_from front (b ∷ left) ≡ lines_from (front ++ b ∷ []) left
unfolding lines_from
lines_on front left b other = if_other b 10 _ _ other

rest_on : (front left : List ℕ) (b : ℕ) → (b ≡ 10 → ⊥) → rest_from front (b ∷ left) ≡ rest_from (front ++ b ∷ []) left
unfolding rest_from
rest_on front left b other = if_other b 10 _ _ other

nothing_left : (front : List ℕ) → lines_from front [] ≡ []
unfolding lines_from
nothing_left front = refl

front_left : (front : List ℕ) → rest_from front [] ≡ front
unfolding rest_from
front_left front = refl

-- ---- an answer

switched_waiting : (asked : Option Bool) (view : View) (seat : SeatView) → (switched_of asked view seat).waiting ≡ seat.waiting
unfolding switched_of
switched_waiting None view seat = refl
switched_waiting (Some true) view seat = refl
switched_waiting (Some false) view seat = refl

switched_rest : (asked : Option Bool) (view : View) (seat : SeatView) → (switched_of asked view seat).rest ≡ seat.rest
unfolding switched_of
switched_rest None view seat = refl
switched_rest (Some true) view seat = refl
switched_rest (Some false) view seat = refl

answered_waiting : (asked : Option Ask) (view : View) (seat : SeatView) (line : List ℕ) (behind : List (List ℕ)) → seat.waiting ≡ line ∷ behind
    → (answered_of asked view seat).waiting ≡ behind
unfolding answered_of
answered_waiting asked view seat line behind is =
    switched_waiting (watch_asked asked) view (record seat { waiting = drop 1 seat.waiting }) ∙ ap (drop 1) is

answered_rest : (asked : Option Ask) (view : View) (seat : SeatView) → (answered_of asked view seat).rest ≡ seat.rest
unfolding answered_of
answered_rest asked view seat = switched_rest (watch_asked asked) view (record seat { waiting = drop 1 seat.waiting })

left_not_taken : said.Left ≡ said.Taken → ⊥
left_not_taken e = cc e

other_there : (seats mid seats_then : List Seat) (s : ℕ) (seat_then : Seat) → mid ≡ seats → seats_then ≡ set mid s seat_then
    → (t : ℕ) → (t ≡ s → ⊥) → slice_get seats_then t ≡ slice_get seats t
other_there seats mid seats_then s seat_then mid_is set_is t other =
    ap (λ (l : List Seat). slice_get l t) set_is ∙ get_other mid s t seat_then other ∙ ap (λ (l : List Seat). slice_get l t) mid_is

same_there : (mid seats_then : List Seat) (s : ℕ) (seat_mid seat_then : Seat) → slice_get mid s ≡ Some seat_mid → seats_then ≡ set mid s seat_then → slice_get seats_then s ≡ Some seat_then
same_there mid seats_then s seat_mid seat_then at set_is = ap (λ (l : List Seat). slice_get l s) set_is ∙ get_set mid s seat_then seat_mid at

read_is : (xs : List Seat) (k : ℕ) (x y : Seat) → slice_get xs k ≡ Some y → slice_index_or xs k x ≡ y
read_is [] k x y at = absurd (cc at)
read_is (z ∷ zs) zero x y at = some_same z y at
read_is (z ∷ zs) (suc k) x y at = read_is zs k x y at

-- what is read of a seat that is there
pub read_there : (seats mid : List Seat) (s : ℕ) (seat read : Seat) → mid ≡ seats → slice_get seats s ≡ Some seat → read ≡ slice_index_or mid s read → slice_get mid s ≡ Some read
read_there seats mid s seat read mid_is there is =
    let there' : slice_get mid s ≡ Some seat = ap (λ (l : List Seat). slice_get l s) mid_is ∙ there in
    there' ∙ ap Some (sym (is ∙ read_is mid s read seat there'))

pub line_read : (hall : Hall) (s : ℕ) (seat read : Seat) (text front : List ℕ) → slice_get hall.seats.items s ≡ Some seat → slice_get hall.seats.items s ≡ Some read → text ≡ read.line.items
    → seat.line.items ≡ take 130 front → text ≡ take 130 front
line_read hall s seat read text front there at text_is line = text_is ∙ ap (λ (x : Seat). x.line.items) (some_same read seat (sym at ∙ there)) ∙ line

pub seated_shown : (asked : Option Ask) (shown view : View) (taken : Said) (seat seat_then : Seat) → shown ≡ view
    → (taken ≡ said.Taken → (v : SeatView) → IsSeated v seat → IsSeated (answered_of asked shown v) seat_then)
    → taken ≡ said.Taken → (v : SeatView) → IsSeated v seat → IsSeated (answered_of asked view v) seat_then
seated_shown asked shown view taken seat seat_then is seated t v was = subst (λ (w : View). IsSeated (answered_of asked w v) seat_then) is (seated t v was)

-- a moment as it is stored
pub stored_moment : (z : ℤ) → IsMoment z → to_z w64 (of_z w64 z) ≡ z
stored_moment z range = to_z-of_z w64 z (moment_fits z range)
  where
    moment_fits : (z : ℤ) → IsMoment z → FitsSigned w64 z
    moment_fits z range = grind (arith, ints)

pub made_from : (late : Option ℤ) (last asked_for : ℤ) (before after : AppView) (asked : Option Ask) (made : Made)
    → asked_for ≡ last → IsMade late asked_for before after asked made → IsMade late last before after asked made
made_from late last asked_for before after asked made is done = subst (λ (z : ℤ). IsMade late z before after asked made) is done

pub seats_count : (hall : Hall) → length hall.seats.items ≡ 15
seats_count hall = sym hall.seats.ok.0 ∙ hall.count

pub if_none : {A : Type 0} (o : Option A) (P : Type 0) → (o ≡ None → P) → IfNone o P
if_none None P so = so refl
if_none (Some x) P so = tt

pub without_memory : (terms : Terms) (late : Option ℤ) (start now : TalksSeen) (first pass after : AppView) (hall : Hall) (s : ℕ) (left : List ℕ) → after ≡ pass
    → StandsAmid terms late start now first pass hall s left → HasStopped terms late start now first after end.Memory
without_memory terms late start now first pass after hall s left is was =
    subst (λ (p : AppView). HasStopped terms late start now first p end.Memory) (sym is)
    (was.done, ends_there terms late start now now first pass hall was.done end.Memory was.hosting refl refl was.hosting.quiet (λ b. absurd b))

module _ (terms : Terms) (late : Option ℤ) (start now : TalksSeen) (first pass after : AppView) (hall : Hall) (s : ℕ) (left : List ℕ) (asked : Option Ask) (reason : Reason) (made : Made)
    (few : s < 15) (count : length hall.seats.items ≡ 15) (was : StandsAmid terms late start now first pass hall s (10 ∷ left)) (done : IsMade late hall.last pass after asked made) where
  abbrev row : List ℕ
  row = done.captured.row

  -- the line, with what was done for it
  abbrev line : Line
  line = record {
    seat = s;
    line = was.amid.front;
    asked = asked;
    reason = reason;
    at = made.at;
    pair = (made.capture.number, row);
    number = number_of made.commit;
    clients = heres_in hall.seats.items;
  }

  abbrev view : SeatView
  view = seat_in first.own s was.done

  captured_so : made.capture ≡ captured_over (own_in first.own was.done) (made.capture.number, row)
  captured_so = capture_of_own (own_in first.own was.done) first.own pass done.between made.capture was.hosting.own done.captured

  waits : view.waiting ≡ was.amid.front ∷ lines_from [] left
  waits = was.amid.waiting ∙ first_from was.amid.front left

  pub is_next : IsAsked was.amid.front asked → IfNone asked (IsReason was.amid.front reason) → IsNextLine late first.own was.done line
  is_next asks reasoned = record {
    among = few;
    here = was.amid.seated.here ∙ was.here;
    behind = lines_from [] left;
    first = waits;
    asked = asks;
    reason = reasoned;
    paced = subst (λ (z : ℤ). IsPaced late z made.at) was.hosting.last done.paced;
    clients = clients_amid first.own was.done s hall.seats.items was.seat count was.others was.there was.amid.seated;
  }

  commit_so : made.commit ≡ commit_of_line (own_in first.own was.done) line
  unfolding commit_of_line
  commit_so = done.commit_is ∙ ap (commit_asked asked (number_of made.commit) made.at) captured_so

  pub used_so : (taken : Said) → HasUsed first after (pairs_in (answering line taken ∷ was.done)) (commits_in first.own (answering line taken ∷ was.done))
  unfolding pairs_in commits_in
  used_so taken =
      subst (λ (c : Option Numbered). HasUsed first after (pairs_in was.done ++ (made.capture.number, row) ∷ []) (commits_in first.own was.done ++ put_before c [])) commit_so
      (used_made first done.between after (pairs_in was.done ++ (made.capture.number, row) ∷ []) (commits_in first.own was.done) made.commit
      (used_captured first pass done.between (pairs_in was.done) (commits_in first.own was.done) made.capture.number made.capture.state made.capture.shown was.hosting.used done.captured)
      done.pushed)

  pub own_so : (taken : Said) → after.own ≡ own_in first.own (answering line taken ∷ was.done)
  unfolding own_in
  own_so taken =
      own_made pass done.between after made.capture.number made.capture.state made.capture.shown made.commit done.captured done.pushed
      ∙ ap (λ (o : Option Numbered). own_after o made.commit) was.hosting.own
      ∙ ap (own_after (own_in first.own was.done)) commit_so

  pub newest_so : (taken : Said) → Some made.capture ≡ newest_in first.own (answering line taken ∷ was.done)
  unfolding newest_in
  newest_so taken = ap Some captured_so

  pub text_so : answer_to asked reason (facts_made hall terms.may_end made) ≡ answer_of_line terms.may_end first.own was.done line
  unfolding answer_of_line facts_of_line captured_over
  text_so =
      ap (λ (c : Capture). answer_to asked reason (record {
        published = made.capture.number;
        shown = c.shown;
        at = made.at;
        number = number_of made.commit;
        clients = heres_in hall.seats.items;
        gates = hall.sighted.gates.items;
        may_end = terms.may_end;
      })) captured_so
      ∙ ap (λ (g : Sight). answer_to asked reason (record {
        published = made.capture.number;
        shown = (captured_over (own_in first.own was.done) (made.capture.number, row)).shown;
        at = made.at;
        number = number_of made.commit;
        clients = heres_in hall.seats.items;
        gates = g.gates;
        may_end = terms.may_end;
      })) was.hosting.sight

  -- ---- and the answer that was said

  module _ (taken : Said) (now_then : TalksSeen) (hall_then : Hall) (text : List ℕ) (asks : IsAsked was.amid.front asked)
      (reasoned : IfNone asked (IsReason was.amid.front reason)) (text_is : text ≡ answer_to asked reason (facts_made hall terms.may_end made))
      (passed : Passes now.passed (passed_in_saying s text taken) now_then.passed) (opened : now_then.opened ≡ now.opened) where
    passed_so : Passes now.passed (passed_by terms.may_end first.own was.done (answering line taken)) now_then.passed
    unfolding passed_by
    passed_so = subst (λ (l : List ℕ). Passes now.passed (passed_in_saying s l taken) now_then.passed) (text_is ∙ text_so) passed

    -- serving ends there
    pub ended_so : (ended : HostEnd) → EndsHosting terms start now_then (answering line taken ∷ was.done) ended → (EndsBetween ended → ⊥) → HasStopped terms late start now_then first after ended
    ended_so ended ends amid = (
      answering line taken ∷ was.done,
      ends_by terms late start now now_then first pass after hall was.done (answering line taken) ended was.hosting (is_next asks reasoned) passed_so opened
          (used_so taken) (own_so taken) ends (λ between. absurd (amid between)),
    )

    -- or it goes on
    hosting_so : now_then.faults ≡ now.faults → (terms.may_end ≡ true → asked ≡ Some End → ⊥) → hall_then.last ≡ made.at → hall_then.newest ≡ Some made.capture
        → sight_of hall_then.sighted ≡ sight_of hall.sighted → IsHosting terms late start now_then first after hall_then (answering line taken ∷ was.done)
    unfolding last_in sight_in
    hosting_so quiet goes_on last newest sight =
        one_more terms late start now now_then first pass after hall was.done (answering line taken) hall_then was.hosting (is_next asks reasoned) passed_so opened quiet
        (used_so taken) (own_so taken) last (newest ∙ newest_so taken) (sight ∙ was.hosting.sight) (λ over. goes_on over.0 over.1)

    others_so : ((t : ℕ) → (t ≡ s → ⊥) → slice_get hall_then.seats.items t ≡ slice_get hall.seats.items t) → AreSeatsBut s first.own (answering line taken ∷ was.done) hall_then.seats.items
    unfolding seat_in seat_after
    others_so same =
        others_stay s first.own was.done (answering line taken) hall.seats.items hall_then.seats.items
        (λ t other. if_other s t _ _ (λ e. other (sym e))) same was.others

  -- the answer was taken, and the next byte is
  pub answered_on : (now_then : TalksSeen) (hall_then : Hall) (text : List ℕ) (seat_then : Seat) → IsAsked was.amid.front asked → IfNone asked (IsReason was.amid.front reason)
      → text ≡ answer_to asked reason (facts_made hall terms.may_end made) → Passes now.passed (passed_in_saying s text said.Taken) now_then.passed → now_then.opened ≡ now.opened
      → now_then.faults ≡ now.faults → (terms.may_end ≡ true → asked ≡ Some End → ⊥) → hall_then.last ≡ made.at → hall_then.newest ≡ Some made.capture
      → sight_of hall_then.sighted ≡ sight_of hall.sighted → ((t : ℕ) → (t ≡ s → ⊥) → slice_get hall_then.seats.items t ≡ slice_get hall.seats.items t)
      → slice_get hall_then.seats.items s ≡ Some seat_then → seat_then.here ≡ was.seat.here → seat_then.line.items ≡ []
      → ((v : SeatView) → IsSeated v was.seat → IsSeated (answered_of asked (shown_view_of made.capture.shown) v) seat_then)
      → StandsAmid terms late start now_then first after hall_then s left
  unfolding seat_in seat_after
  answered_on now_then hall_then text seat_then asks reasoned text_is passed opened quiet goes_on last newest sight same there here line_is seated =
      let shown : View = shown_view_of (captured_over (own_in first.own was.done) (made.capture.number, row)).shown in
      let seat_is : seat_in first.own s (answering line said.Taken ∷ was.done) ≡ answered_of asked shown view = if_same s _ _ in
      record {
        done = answering line said.Taken ∷ was.done;
        hosting = hosting_so said.Taken now_then hall_then text asks reasoned text_is passed opened quiet goes_on last newest sight;
        others = others_so said.Taken now_then hall_then text asks reasoned text_is passed opened same;
        seat = seat_then;
        there = there;
        here = here ∙ was.here;
        amid = subst (λ (v : SeatView). IsSeatAmid v seat_then left) (sym seat_is) (record {
          seated = subst (λ (c : Capture). IsSeated (answered_of asked (shown_view_of c.shown) view) seat_then) captured_so (seated view was.amid.seated);
          front = [];
          line = line_is;
          waiting = answered_waiting asked shown view was.amid.front (lines_from [] left) waits;
          rest = answered_rest asked shown view ∙ was.amid.rest ∙ rest_after was.amid.front left;
        });
      }

  -- the client had left
  pub answered_gone : (now_then : TalksSeen) (hall_then : Hall) (text : List ℕ) (seat_then : Seat) → IsAsked was.amid.front asked → IfNone asked (IsReason was.amid.front reason)
      → text ≡ answer_to asked reason (facts_made hall terms.may_end made) → Passes now.passed (passed_in_saying s text said.Left) now_then.passed → now_then.opened ≡ now.opened
      → now_then.faults ≡ now.faults → (terms.may_end ≡ true → asked ≡ Some End → ⊥) → hall_then.last ≡ made.at → hall_then.newest ≡ Some made.capture
      → sight_of hall_then.sighted ≡ sight_of hall.sighted → ((t : ℕ) → (t ≡ s → ⊥) → slice_get hall_then.seats.items t ≡ slice_get hall.seats.items t)
      → slice_get hall_then.seats.items s ≡ Some seat_then → seat_then.line.items ≡ [] → IsSeated nobody seat_then
      → Stands terms late start now_then first after hall_then
  unfolding seat_in seat_after nobody
  answered_gone now_then hall_then text seat_then asks reasoned text_is passed opened quiet goes_on last newest sight same there line_is seated =
      let seat_is : seat_in first.own s (answering line said.Left ∷ was.done) ≡ nobody = if_same s _ _ in
      record {
        done = answering line said.Left ∷ was.done;
        hosting = hosting_so said.Left now_then hall_then text asks reasoned text_is passed opened quiet goes_on last newest sight;
        seats = but_and s first.own (answering line said.Left ∷ was.done) hall_then.seats.items seat_then
            (others_so said.Left now_then hall_then text asks reasoned text_is passed opened same) there
            (subst (λ (v : SeatView). IsSeat v seat_then) (sym seat_is) (record { seated = seated; waiting = refl; rest = line_is }));
      }

  -- what follows on an answer that was said, or wasn't
  pub answered_amid : (now_then : TalksSeen) (hall_then : Hall) (text : List ℕ) (mid : List Seat) (seat_mid seat_then : Seat) (went : Going) (taken : Said) → IsGoing terms asked taken went
      → IsAsked was.amid.front asked → IfNone asked (IsReason was.amid.front reason)
      → text ≡ answer_to asked reason (facts_made hall terms.may_end made) → Passes now.passed (passed_in_saying s text taken) now_then.passed → now_then.opened ≡ now.opened
      → HasSayCause now.faults now_then.faults taken → hall_then.last ≡ made.at → hall_then.newest ≡ Some made.capture → sight_of hall_then.sighted ≡ sight_of hall.sighted
      → mid ≡ hall.seats.items → slice_get mid s ≡ Some seat_mid → hall_then.seats.items ≡ set mid s seat_then → seat_then.line.items ≡ []
      → (taken ≡ said.Taken → seat_then.here ≡ seat_mid.here)
      → (taken ≡ said.Taken → (v : SeatView) → IsSeated v seat_mid → IsSeated (answered_of asked (shown_view_of made.capture.shown) v) seat_then)
      → ((taken ≡ said.Taken → ⊥) → IsSeated nobody seat_then)
      → GoesOnAmid terms late start now_then first after hall_then s left went
  answered_amid now_then hall_then text mid seat_mid seat_then went said.Failed going asks reasoned text_is passed opened cause last newest sight mid_is at_mid set_is line_is here seated gone =
      subst (λ (g : Going). GoesOnAmid terms late start now_then first after hall_then s left g) (sym going)
      (ended_so said.Failed now_then hall_then text asks reasoned text_is passed opened end.Failed (subst (λ (n : ℕ). Rose n now_then.faults) was.hosting.quiet cause) (λ b. b))
  answered_amid now_then hall_then text mid seat_mid seat_then went said.Left (inl going) asks reasoned text_is passed opened cause last newest sight mid_is at_mid set_is line_is here seated gone =
      subst (λ (g : Going). GoesOnAmid terms late start now_then first after hall_then s left g) (sym going.1)
      (ended_so said.Left now_then hall_then text asks reasoned text_is passed opened end.Asked
      (cause ∙ was.hosting.quiet, going.0.0, (line, said.Left, was.done, refl, going.0.1)) (λ b. b))
  answered_amid now_then hall_then text mid seat_mid seat_then went said.Left (inr going) asks reasoned text_is passed opened cause last newest sight mid_is at_mid set_is line_is here seated gone =
      subst (λ (g : Going). GoesOnAmid terms late start now_then first after hall_then s left g) (sym going.1)
      (answered_gone now_then hall_then text seat_then asks reasoned text_is passed opened cause (λ may is. going.0 (may, is)) last newest sight
      (other_there hall.seats.items mid hall_then.seats.items s seat_then mid_is set_is)
      (same_there mid hall_then.seats.items s seat_mid seat_then at_mid set_is) line_is (gone left_not_taken))
  answered_amid now_then hall_then text mid seat_mid seat_then went said.Taken (inl going) asks reasoned text_is passed opened cause last newest sight mid_is at_mid set_is line_is here seated gone =
      subst (λ (g : Going). GoesOnAmid terms late start now_then first after hall_then s left g) (sym going.1)
      (ended_so said.Taken now_then hall_then text asks reasoned text_is passed opened end.Asked
      (cause ∙ was.hosting.quiet, going.0.0, (line, said.Taken, was.done, refl, going.0.1)) (λ b. b))
  answered_amid now_then hall_then text mid seat_mid seat_then went said.Taken (inr going) asks reasoned text_is passed opened cause last newest sight mid_is at_mid set_is line_is here seated gone =
      let seat_is : seat_mid ≡ was.seat = some_same seat_mid was.seat (sym at_mid ∙ ap (λ (l : List Seat). slice_get l s) mid_is ∙ was.there) in
      subst (λ (g : Going). GoesOnAmid terms late start now_then first after hall_then s left g) (sym going.1)
      (answered_on now_then hall_then text seat_then asks reasoned text_is passed opened cause (λ may is. going.0 (may, is)) last newest sight
      (other_there hall.seats.items mid hall_then.seats.items s seat_then mid_is set_is)
      (same_there mid hall_then.seats.items s seat_mid seat_then at_mid set_is) (here refl ∙ ap (λ (x : Seat). x.here) seat_is) line_is
      (λ v is. seated refl v (subst (IsSeated v) (sym seat_is) is)))

-- ---- bytes

module _ (terms : Terms) (late : Option ℤ) (start now : TalksSeen) (first pass : AppView) (hall : Hall) (s : ℕ) where
  -- a byte that ends no line is kept
  pub byte_kept : (hall_then : Hall) (left : List ℕ) (b : ℕ) (seat_then : Seat) (was : StandsAmid terms late start now first pass hall s (b ∷ left)) → (b ≡ 10 → ⊥)
      → ((whole : List ℕ) → was.seat.line.items ≡ take 130 whole → seat_then.line.items ≡ take 130 (whole ++ b ∷ [])) → (IsSeated (seat_in first.own s was.done) was.seat → IsSeated (seat_in first.own s was.done) seat_then)
      → seat_then.here ≡ was.seat.here → hall_then.last ≡ hall.last → hall_then.newest ≡ hall.newest → sight_of hall_then.sighted ≡ sight_of hall.sighted
      → ((t : ℕ) → (t ≡ s → ⊥) → slice_get hall_then.seats.items t ≡ slice_get hall.seats.items t) → slice_get hall_then.seats.items s ≡ Some seat_then
      → StandsAmid terms late start now first pass hall_then s left
  byte_kept hall_then left b seat_then was other kept seated here last newest sight same there = record {
    done = was.done;
    hosting = record {
      lawful = was.hosting.lawful;
      passed = was.hosting.passed;
      opened = was.hosting.opened;
      quiet = was.hosting.quiet;
      used = was.hosting.used;
      own = was.hosting.own;
      last = last ∙ was.hosting.last;
      newest = newest ∙ was.hosting.newest;
      sight = sight ∙ was.hosting.sight;
      goes_on = was.hosting.goes_on;
    };
    others = λ t seat differs at. was.others t seat differs (sym (same t differs) ∙ at);
    seat = seat_then;
    there = there;
    here = here ∙ was.here;
    amid = record {
      seated = seated was.amid.seated;
      front = was.amid.front ++ b ∷ [];
      line = kept was.amid.front was.amid.line;
      waiting = was.amid.waiting ∙ lines_on was.amid.front left b other;
      rest = was.amid.rest ∙ rest_on was.amid.front left b other;
    };
  }

  -- all bytes of a piece are taken
  pub piece_done : StandsAmid terms late start now first pass hall s [] → Stands terms late start now first pass hall
  piece_done was = record {
    done = was.done;
    hosting = was.hosting;
    seats = but_and s first.own was.done hall.seats.items was.seat was.others was.there (record {
      seated = was.amid.seated;
      waiting = was.amid.waiting ∙ nothing_left was.amid.front;
      rest = was.amid.line ∙ ap (take 130) (sym (was.amid.rest ∙ front_left was.amid.front));
    });
  }

-- ---- what is done for a line

pub is_made : (late : Option ℤ) (last asked_for answer moment at : ℤ) (before between after : AppView) (asked : Option Ask) (capture : Capture) (commit : Option Numbered)
    → asked_for ≡ last → moment ≡ answer → at ≡ answer → IsPaced late asked_for answer
    → HasCaptured before between capture.number capture.state capture.shown → HasMade between after commit
    → commit ≡ commit_asked asked (number_of commit) at capture
    → IsMade late last before after asked (record { at = moment; capture = capture; commit = commit })
is_made late last asked_for answer moment at before between after asked capture commit last_is moment_is at_is paced captured made commit_is = record {
  between = between;
  paced = subst (λ (x : ℤ × ℤ). IsPaced late x.0 x.1) (λ k. (last_is k, sym moment_is k)) paced;
  captured = captured;
  pushed = made;
  commit_is = commit_is ∙ ap (λ (z : ℤ). commit_asked asked (number_of commit) z capture) (at_is ∙ sym moment_is);
}

-- ---- a seat behind an answer

pub seated_free : (seat : Seat) → (seat.here ≡ false) × (seat.watching ≡ false) → (seat.told ≡ None) × (seat.told_at ≡ pos 0) × (seat.heard_at ≡ pos 0) → IsSeated nobody seat
unfolding nobody
seated_free seat flags told = record {
  here = sym flags.0;
  watching = sym flags.1;
  told = sym told.0;
  told_at = sym told.1;
  heard_at = sym told.2;
}

pub seated_kept : (asked : Option Ask) (shown : View) (view : SeatView) (seat seat_then : Seat) → None ≡ watch_asked asked → seat_then.here ≡ seat.here → seat_then.watching ≡ seat.watching
    → seat_then.told ≡ seat.told → seat_then.told_at ≡ seat.told_at → seat_then.heard_at ≡ seat.heard_at → IsSeated view seat → IsSeated (answered_of asked shown view) seat_then
unfolding answered_of switched_of
seated_kept asked shown view seat seat_then is here watching told told_at heard_at was =
    subst (λ (o : Option Bool). IsSeated (switched_of o shown (record view { waiting = drop 1 view.waiting })) seat_then) is (record {
      here = was.here ∙ sym here;
      watching = was.watching ∙ sym watching;
      told = was.told ∙ sym told;
      told_at = was.told_at ∙ sym told_at;
      heard_at = was.heard_at ∙ sym heard_at;
    })

pub seated_watching : (asked : Option Ask) (shown : View) (view : SeatView) (seat seat_then : Seat) → Some true ≡ watch_asked asked → seat_then.here ≡ seat.here → seat_then.watching ≡ true
    → seat_then.told ≡ Some shown → seat_then.told_at ≡ seat.told_at → seat_then.heard_at ≡ seat.heard_at → IsSeated view seat → IsSeated (answered_of asked shown view) seat_then
unfolding answered_of switched_of
seated_watching asked shown view seat seat_then is here watching told told_at heard_at was =
    subst (λ (o : Option Bool). IsSeated (switched_of o shown (record view { waiting = drop 1 view.waiting })) seat_then) is (record {
      here = was.here ∙ sym here;
      watching = sym watching;
      told = sym told;
      told_at = was.told_at ∙ sym told_at;
      heard_at = was.heard_at ∙ sym heard_at;
    })

pub seated_unwatching : (asked : Option Ask) (shown : View) (view : SeatView) (seat seat_then : Seat) → Some false ≡ watch_asked asked → seat_then.here ≡ seat.here → seat_then.watching ≡ false
    → seat_then.told ≡ seat.told → seat_then.told_at ≡ seat.told_at → seat_then.heard_at ≡ seat.heard_at → IsSeated view seat → IsSeated (answered_of asked shown view) seat_then
unfolding answered_of switched_of
seated_unwatching asked shown view seat seat_then is here watching told told_at heard_at was =
    subst (λ (o : Option Bool). IsSeated (switched_of o shown (record view { waiting = drop 1 view.waiting })) seat_then) is (record {
      here = was.here ∙ sym here;
      watching = sym watching;
      told = was.told ∙ sym told;
      told_at = was.told_at ∙ sym told_at;
      heard_at = was.heard_at ∙ sym heard_at;
    })
