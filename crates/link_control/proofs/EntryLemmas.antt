-- What is logged and answered for one line more.
use Rattle.std.proofs.Common.{◌≡◌, refl, sym, ◌∙◌, ap, ℕ, suc, List, [], ◌∷◌, ◌++◌, length, Option, Some, None, option_map, append_assoc, append-nil}
use Rattle.client_state.specs.Shown.{shown_over}
use Rattle.client_state.specs.Words.{state_of_words}
use Rattle.client_state.specs.declared.state.State.{State}
use Rattle.link_shared.specs.declared.capture.Capture.{Capture}
use Rattle.link_live.specs.Clients.{commit_of_act}
use Rattle.link_text.specs.declared.control_line.ControlLine.{ControlLine}
use Rattle.link_script.specs.declared.live_script.Act.{Act}
use Rattle.link_control.specs.Answers.{answer_of, answers_of}
use Rattle.link_control.specs.Log.{Answered, Numbered, act_asked, captured_over, commits_in, entries_of, entry_of, own_after, own_behind, put_before}
use Rattle.link_control.specs.ServingNow.{number_of}
use Rattle.link_control.specs.declared.log.LineLog.{LineLog}

-- ---- the log

pub entries_none : (own : Option Numbered) → entries_of own [] ≡ []
unfolding entries_of
entries_none own = refl

pub entries_more : (own : Option Numbered) (answered : List Answered) (one : Answered)
    → entries_of own (answered ++ one ∷ []) ≡ entries_of own answered ++ entry_of (own_behind own (entries_of own answered)) one ∷ []
unfolding entries_of
entries_more own [] one = refl
entries_more own (first ∷ answered) one =
    ap (λ (l : List LineLog). entry_of own first ∷ l) (entries_more (own_after own (entry_of own first).commit) answered one)

pub entries_length : (own : Option Numbered) (answered : List Answered) → length (entries_of own answered) ≡ length answered
unfolding entries_of
entries_length own [] = refl
entries_length own (first ∷ answered) = ap suc (entries_length (own_after own (entry_of own first).commit) answered)

pub own_more : (own : Option Numbered) (log : List LineLog) (entry : LineLog) → own_behind own (log ++ entry ∷ []) ≡ own_after (own_behind own log) entry.commit
own_more own [] entry = refl
own_more own (first ∷ log) entry = own_more (own_after own first.commit) log entry

put_append : (commit : Option Numbered) (commits more : List Numbered) → put_before commit (commits ++ more) ≡ put_before commit commits ++ more
put_append None commits more = refl
put_append (Some commit) commits more = refl

pub commits_more : (log : List LineLog) (entry : LineLog) → commits_in (log ++ entry ∷ []) ≡ commits_in log ++ put_before entry.commit []
commits_more [] entry = refl
commits_more (first ∷ log) entry =
    ap (put_before first.commit) (commits_more log entry) ∙ put_append first.commit (commits_in log) (put_before entry.commit [])

-- ---- an entry

capture_is : (own : Option Numbered) (capture : Capture) (row : List ℕ) → capture.state ≡ state_of_words row
    → capture.shown ≡ shown_over own capture.state.app capture.state → capture ≡ captured_over own (capture.number, row)
unfolding captured_over
capture_is own capture row state shown = λ k. record { number = capture.number; state = state k; shown = shown_is k }
  where
    shown_is : capture.shown ≡ shown_over own (state_of_words row).app (state_of_words row)
    shown_is = shown ∙ ap (λ (s : State). shown_over own s.app s) state

-- what was captured and committed for a line, as it is logged
pub is_entry : (own : Option Numbered) (line : List ℕ) (asked : Option ControlLine) (entry : LineLog) (row : List ℕ)
    → entry.capture.state ≡ state_of_words row → entry.capture.shown ≡ shown_over own entry.capture.state.app entry.capture.state
    → entry.commit ≡ option_map (λ (act : Act). (number_of entry.commit, commit_of_act act entry.moment entry.capture)) (act_asked asked)
    → entry ≡ entry_of own (record { line = line; asked = asked; at = entry.moment; pair = (entry.capture.number, row); number = number_of entry.commit })
unfolding entry_of
is_entry own line asked entry row state shown commit =
    λ k. record { moment = entry.moment; capture = capture_is own entry.capture row state shown k; commit = commit_is k }
  where
    commit_is : entry.commit ≡ option_map (λ (act : Act). (number_of entry.commit, commit_of_act act entry.moment (captured_over own (entry.capture.number, row)))) (act_asked asked)
    commit_is =
        commit
        ∙ ap (λ (c : Capture). option_map (λ (act : Act). (number_of entry.commit, commit_of_act act entry.moment c)) (act_asked asked))
        (capture_is own entry.capture row state shown)

-- ---- the answers

pub none_answered : (log : List LineLog) → answers_of [] log ≡ []
unfolding answers_of
none_answered [] = refl
none_answered (entry ∷ log) = refl

pub answers_more : (own : Option Numbered) (answered : List Answered) (one : Answered) (entry : LineLog)
    → answers_of (answered ++ one ∷ []) (entries_of own answered ++ entry ∷ [])
    ≡ answers_of answered (entries_of own answered) ++ answer_of one.asked one.number entry.capture.shown
unfolding answers_of entries_of
answers_more own [] one entry = append-nil (answer_of one.asked one.number entry.capture.shown)
answers_more own (first ∷ answered) one entry =
    let own_then = own_after own (entry_of own first).commit in
    let text = answer_of first.asked first.number (entry_of own first).capture.shown in
    ap (λ (l : List ℕ). text ++ l) (answers_more own_then answered one entry)
    ∙ sym (append_assoc text (answers_of answered (entries_of own_then answered)) (answer_of one.asked one.number entry.capture.shown))

-- what is logged behind them has no part in their answers
pub answers_front : (own : Option Numbered) (answered : List Answered) (more : List LineLog)
    → answers_of answered (entries_of own answered ++ more) ≡ answers_of answered (entries_of own answered)
unfolding answers_of entries_of
answers_front own [] more = none_answered more
answers_front own (first ∷ answered) more =
    let own_then = own_after own (entry_of own first).commit in
    let text = answer_of first.asked first.number (entry_of own first).capture.shown in
    ap (λ (l : List ℕ). text ++ l) (answers_front own_then answered more)
