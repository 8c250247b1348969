-- A client is answered in order, deed by deed.
use Rattle.std.proofs.Common.{◌≡◌, refl, sym, ◌∙◌, ap, subst, ℕ, ◌==◌, ℤ, if◌then◌else◌, Bool, true, false, List, [], ◌∷◌, ◌++◌, append-nil, Option, Some, None}
use Rattle.std.specs.Prelude.{drop, map}
use Rattle.std.proofs.lemmas.Bool.{false≢true}
use Rattle.lk_talks.specs.Talks.{Passed, comes, hears, leaves, passed_in_saying, says, shuts}
use Rattle.lk_talks.specs.declared.talks.Said.{Said}
use Rattle.lk_talks.specs.declared.talks.Said.TheVariants as said
use Rattle.link_asks.specs.Views.{shown_view_of}
use Rattle.link_asks.specs.declared.view.View.{View}
use Rattle.link_control.specs.Log.{Numbered, captured_over}
use Rattle.link_control.proofs.CutLemmas.{lines_cut}
use Rattle.link_clients.specs.Deeds.{Deed, Line, answer_of_line, answering, dropping, facts_of_line, hearing, joining, last_in, leaving, looking, newest_in, own_in, passed_by, passed_in, telling, told_of}
use Rattle.link_clients.specs.Lawful.{AreLawful, IsNews, IsNextLine, MayFollow}
use Rattle.link_clients.specs.Seats.{SeatView, answered_of, heard_of, if_said, newcomer_at, nobody, seat_after, seat_in, switched_of, told_at_of, watch_asked}
use Rattle.link_clients.specs.Visits.{Answer, AreAnsweredInOrder, IsAnswer, bytes_heard, text_of, texts_said, visit_after}
use Rattle.link_clients.specs.declared.terms.Terms.{Terms}
use Rattle.link_clients.proofs.AnsweredLemmas.{IsServedSoFar, answered_more, heard_more, is_number, moved, nothing_served, told_more}
use Rattle.link_clients.proofs.PassedLemmas.{bytes_both, no_bytes_more, no_text_more, texts_both, visit_both}

-- how far the client in a seat is served in a visit
abbrev pub IsServed : ℕ → List Passed → SeatView → Type 0
IsServed s visit seat = IsServedSoFar (bytes_heard s visit) (texts_said s visit) seat.waiting seat.rest

-- ---- a seat whose line is answered

switched_keeps : (asked : Option Bool) (view : View) (seat : SeatView) → ((switched_of asked view seat).waiting ≡ seat.waiting) × ((switched_of asked view seat).rest ≡ seat.rest)
unfolding switched_of
switched_keeps None view seat = (refl, refl)
switched_keeps (Some true) view seat = (refl, refl)
switched_keeps (Some false) view seat = (refl, refl)

-- ---- what may pass

module _ (s : ℕ) (visit : List Passed) (seat : SeatView) (was : seat.here ≡ true → IsServed s visit seat) where
  -- something that was neither heard nor said
  served_still : (one : Passed) → bytes_heard s (one ∷ []) ≡ [] → texts_said s (one ∷ []) ≡ [] → seat.here ≡ true → IsServed s (visit ++ one ∷ []) seat
  served_still one no_bytes no_text here =
      moved (bytes_heard s visit) _ (texts_said s visit) _ seat.waiting seat.waiting seat.rest seat.rest (no_bytes_more s visit one no_bytes) (no_text_more s visit one no_text) refl refl (was here)

  -- a client comes to a seat
  served_joining : (test : Bool) (t : ℕ) (at : ℤ) → (if test then newcomer_at at else seat).here ≡ true
      → IsServed s (if test then [] else visit ++ comes t ∷ []) (if test then newcomer_at at else seat)
  unfolding bytes_heard texts_said newcomer_at
  served_joining true t at here = nothing_served
  served_joining false t at here = served_still (comes t) refl refl here

  -- a client of a seat goes
  served_leaving : (test : Bool) (one : Passed) → bytes_heard s (one ∷ []) ≡ [] → texts_said s (one ∷ []) ≡ [] → (if test then nobody else seat).here ≡ true
      → IsServed s (visit ++ one ∷ []) (if test then nobody else seat)
  unfolding nobody
  served_leaving true one no_bytes no_text here = absurd (false≢true here)
  served_leaving false one no_bytes no_text here = served_still one no_bytes no_text here

  -- bytes of a client are heard
  served_hearing : (test : Bool) (t : ℕ) (bytes : List ℕ) (at : ℤ) → bytes_heard s (hears t bytes ∷ []) ≡ (if test then bytes ++ [] else []) → (test ≡ true → seat.waiting ≡ [])
      → (if test then heard_of at bytes seat else seat).here ≡ true → IsServed s (visit ++ hears t bytes ∷ []) (if test then heard_of at bytes seat else seat)
  unfolding heard_of texts_said
  served_hearing true t bytes at heard none_waits here =
      let served = moved (bytes_heard s visit) (bytes_heard s visit) (texts_said s visit) (texts_said s visit) seat.waiting [] seat.rest seat.rest refl refl (sym (none_waits refl)) refl (was here) in
      moved (bytes_heard s visit ++ bytes) _ (texts_said s visit) _ _ _ _ _
      (bytes_both s visit (hears t bytes ∷ []) ∙ ap (λ (l : List ℕ). bytes_heard s visit ++ l) (heard ∙ append-nil bytes))
      (no_text_more s visit (hears t bytes) refl) refl refl
      (heard_more (bytes_heard s visit) bytes (texts_said s visit) seat.rest served)
  served_hearing false t bytes at heard none_waits here = served_still (hears t bytes) heard refl here

  -- something is said to a client
  served_saying : (test : Bool) (taken : Said) (t : ℕ) (text : List ℕ) (seat_then : SeatView) → texts_said s (says t text ∷ []) ≡ (if test then text ∷ [] else [])
      → (test ≡ true → IsServedSoFar (bytes_heard s visit) (texts_said s visit ++ text ∷ []) seat_then.waiting seat_then.rest)
      → (if test then if_said taken seat_then else seat).here ≡ true → IsServed s (visit_after s visit (passed_in_saying t text taken)) (if test then if_said taken seat_then else seat)
  unfolding bytes_heard texts_said nobody visit_after
  served_saying true said.Taken t text seat_then is served here =
      moved (bytes_heard s visit) _ (texts_said s visit ++ text ∷ []) _ seat_then.waiting _ seat_then.rest _
      (no_bytes_more s visit (says t text) refl) (texts_both s visit (says t text ∷ []) ∙ ap (λ (l : List (List ℕ)). texts_said s visit ++ l) is) refl refl (served refl)
  served_saying true said.Left t text seat_then is served here = absurd (false≢true here)
  served_saying true said.Failed t text seat_then is served here = absurd (false≢true here)
  served_saying false said.Taken t text seat_then is served here = served_still (says t text) refl is here
  served_saying false said.Left t text seat_then is served here = served_still (leaves t) refl refl here
  served_saying false said.Failed t text seat_then is served here = was here

-- ---- deed by deed

module _ (may_end : Bool) (late : Option ℤ) (own : Option Numbered) (s : ℕ) where
  -- since the client came
  visit_in : List Deed → List Passed
  visit_in done = visit_after s [] (passed_in may_end own done)

  visit_then : (deed : Deed) (done : List Deed) → visit_in (deed ∷ done) ≡ visit_after s (visit_in done) (passed_by may_end own done deed)
  unfolding visit_in passed_in
  visit_then deed done = visit_both s [] (passed_in may_end own done) (passed_by may_end own done deed)

  -- a line of it was answered
  line_served : (done : List Deed) (line : Line) → IsNextLine late own done line → ((seat_in own s done).here ≡ true → IsServed s (visit_in done) (seat_in own s done)) → line.seat ≡ s
      → let seat_then = answered_of line.asked (shown_view_of (captured_over (own_in own done) line.pair).shown) (seat_in own s done) in
      IsServedSoFar (bytes_heard s (visit_in done)) (texts_said s (visit_in done) ++ answer_of_line may_end own done line ∷ []) seat_then.waiting seat_then.rest
  unfolding answered_of answer_of_line facts_of_line
  line_served done line next was same =
      let view = shown_view_of (captured_over (own_in own done) line.pair).shown in
      let seat = seat_in own s done in
      let here : seat.here ≡ true = subst (λ (t : ℕ). (seat_in own t done).here ≡ true) same next.here in
      let first : seat.waiting ≡ line.line ∷ next.behind = subst (λ (t : ℕ). (seat_in own t done).waiting ≡ line.line ∷ next.behind) same next.first in
      let answer : Answer = record { line = line.line; asked = line.asked; reason = line.reason; facts = facts_of_line may_end own done line; own = own_in own done; pair = line.pair } in
      let is : IsAnswer answer = record { asked = next.asked; reason = next.reason; published = refl; shown = refl } in
      let served = moved (bytes_heard s (visit_in done)) (bytes_heard s (visit_in done)) (texts_said s (visit_in done)) (texts_said s (visit_in done)) seat.waiting (line.line ∷ next.behind) seat.rest seat.rest refl refl (sym first) refl (was here) in
      let left : SeatView = record seat { waiting = drop 1 seat.waiting } in
      let keeps = switched_keeps (watch_asked line.asked) view left in
      moved (bytes_heard s (visit_in done)) _ (texts_said s (visit_in done) ++ text_of answer ∷ []) _ next.behind _ seat.rest _
      refl refl (keeps.0 ∙ ap (λ (l : List (List ℕ)). drop 1 l) first) keeps.1
      (answered_more (bytes_heard s (visit_in done)) (texts_said s (visit_in done)) next.behind seat.rest answer (text_of answer) is refl served)

  -- it was told what is shown
  news_served : (done : List Deed) (t : ℕ) → IsNews own done t → ((seat_in own s done).here ≡ true → IsServed s (visit_in done) (seat_in own s done)) → t ≡ s
      → let seat_then = told_at_of (newest_in own done) (last_in done) (seat_in own s done) in
      IsServedSoFar (bytes_heard s (visit_in done)) (texts_said s (visit_in done) ++ told_of (newest_in own done) ∷ []) seat_then.waiting seat_then.rest
  unfolding told_at_of told_of
  news_served done t news was same =
      let seat = seat_in own s done in
      let here : seat.here ≡ true = subst (λ (t : ℕ). (seat_in own t done).here ≡ true) same news.quiet.here in
      told_more (bytes_heard s (visit_in done)) (texts_said s (visit_in done)) seat.waiting seat.rest (shown_view_of news.newest.shown) news.newest.number _
      (ap told_of news.newest_is) (was here)

  deed_served : (deed : Deed) (done : List Deed) → MayFollow late own done deed → ((seat_in own s done).here ≡ true → IsServed s (visit_in done) (seat_in own s done))
      → (seat_after own s done deed (seat_in own s done)).here ≡ true → IsServed s (visit_after s (visit_in done) (passed_by may_end own done deed)) (seat_after own s done deed (seat_in own s done))
  unfolding seat_after passed_by visit_after bytes_heard texts_said
  deed_served (looking at pair sight) done may was here = was here
  deed_served (joining t) done may was here = served_joining s (visit_in done) (seat_in own s done) was (t == s) t (last_in done) here
  deed_served (hearing t bytes) done may was here =
      served_hearing s (visit_in done) (seat_in own s done) was (t == s) t bytes (last_in done) refl
      (λ is. subst (λ (n : ℕ). (seat_in own n done).waiting ≡ []) (is_number t s is) may.0.none_waits) here
  deed_served (answering line taken) done may was here =
      served_saying s (visit_in done) (seat_in own s done) was (line.seat == s) taken line.seat (answer_of_line may_end own done line) _ refl
      (λ is. line_served done line may was (is_number line.seat s is)) here
  deed_served (telling t taken) done may was here =
      served_saying s (visit_in done) (seat_in own s done) was (t == s) taken t (told_of (newest_in own done)) _ refl
      (λ is. news_served done t may was (is_number t s is)) here
  deed_served (leaving t) done may was here = served_leaving s (visit_in done) (seat_in own s done) was (t == s) (leaves t) refl refl here
  deed_served (dropping t) done may was here = served_leaving s (visit_in done) (seat_in own s done) was (t == s) (shuts t) refl refl here

  served_in : (terms : Terms) (done : List Deed) → AreLawful terms late own done → (seat_in own s done).here ≡ true → IsServed s (visit_in done) (seat_in own s done)
  unfolding seat_in nobody
  served_in terms [] lawful here = absurd (false≢true here)
  served_in terms (deed ∷ done) lawful here =
      subst (λ (visit : List Passed). IsServed s visit (seat_after own s done deed (seat_in own s done))) (sym (visit_then deed done))
      (deed_served deed done lawful.0 (served_in terms done lawful.2) here)

pub answered_in_order : AreAnsweredInOrder
unfolding visit_in
answered_in_order terms own late done s lawful here =
    let served = served_in terms.may_end late own s terms done lawful here in
    record {
      answers = served.answers;
      whole = lines_cut _ (seat_in own s done).rest (map (λ (answer : Answer). answer.line) served.answers ++ (seat_in own s done).waiting) served.cut;
      each = served.each;
      said = served.said;
    }
