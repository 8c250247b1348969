-- A line of a client: it is answered, or serving ends there.
use Rattle.std.proofs.Common.{◌≡◌, refl, sym, ◌∙◌, ap, subst, arith, ℕ, ℤ, pos, suc, ◌+◌, ◌-◌, ◌<◌, ◌≤◌, List, [], ◌∷◌, ◌++◌, length, take, drop, Option, Some, None, append_assoc, append-nil, length-append, FitsSigned, of_z, to_z, w64}
use Rattle.std.specs.Option.{option_map}
use Rattle.std.proofs.Math.Seq.{take-add}
use Rattle.std.proofs.lemmas.List.{length-map, map-append, take_rest}
use Rattle.std.proofs.lemmas.List.Elements.{All-push}
use Rattle.std.proofs.lemmas.Int.{ints, to_z-of_z}
use Rattle.std.specs.declared.alloc.AllocError.{AllocError}
use Rattle.audio_handoff.specs.Cell.{Grows, Pair}
use Rattle.link_shared.specs.Passes.{AppView, HasCaptured}
use Rattle.link_shared.specs.declared.capture.Capture.{Capture}
use Rattle.lk_base.specs.Ranges.{IsMoment}
use Rattle.lk_outside.specs.Faults.{Rose}
use Rattle.lk_outside.specs.Pace.{IsPaced}
use Rattle.lk_outside.specs.Sink.{Appends}
use Rattle.lk_outside.specs.Talk.{TalkSeen}
use Rattle.link_text.specs.ControlLine.{IsAsked}
use Rattle.link_text.specs.declared.control_line.ControlLine.{ControlLine}
use Rattle.link_script.specs.declared.live_script.Act.{Act}
use Rattle.link_live.specs.Clients.{commit_of_act}
use Rattle.link_control.specs.Answers.{answer_of, answers_of}
use Rattle.link_control.specs.Lines.{whole_lines_of}
use Rattle.link_control.specs.Log.{Answered, Numbered, act_asked, commits_in, entries_of, entry_of, own_after, own_behind}
use Rattle.link_control.specs.Serving.{HasUsed, lines_in, pairs_in}
use Rattle.link_control.specs.ServingNow.{AreCut, AreLogged, HasMade, HasStopped, IsDone, IsServing, IsWrittenInPart, StopsServing, number_of}
use Rattle.link_control.specs.declared.log.LineLog.{LineLog}
use Rattle.link_control.specs.declared.server.Served.{Served}
use Rattle.link_control.specs.declared.server.Served.TheVariants as served
use Rattle.link_control.proofs.CutLemmas.{cut_closed, cut_longer, grows_length, grows_then, lines_cut, lines_grow}
use Rattle.link_control.proofs.EntryLemmas.{answers_front, answers_more, commits_more, entries_length, entries_more, is_entry, own_more}
use Rattle.link_control.proofs.PaceLemmas.{last_more, paced_more}
use Rattle.link_control.proofs.UsedLemmas.{own_made, used_captured, used_made}

-- ---- what is written

two_parts : (before : Option (List ℕ)) (xs ys : List ℕ)
    → option_map (λ old. old ++ ys) (option_map (λ old. old ++ xs) before) ≡ option_map (λ old. old ++ (xs ++ ys)) before
two_parts None xs ys = refl
two_parts (Some old) xs ys = ap Some (append_assoc old xs ys)

pub appends_more : (before mid after : Option (List ℕ)) (xs ys : List ℕ) → Appends before xs mid → Appends mid ys after → Appends before (xs ++ ys) after
appends_more before mid after xs ys first second = second ∙ (ap (option_map (λ old. old ++ ys)) first ∙ two_parts before xs ys)

-- the first bytes were appended, and then some of the rest
pub appends_next : (before mid after : Option (List ℕ)) (done count : ℕ) (bytes : List ℕ)
    → Appends before (take done bytes) mid → Appends mid (take count (take (length bytes - done) (drop done bytes))) after
    → Appends before (take (done + count) bytes) after
appends_next before mid after done count bytes first second =
    let all_left : take (length bytes - done) (drop done bytes) ≡ drop done bytes = take_rest bytes done in
    rw (take-add done count bytes, ← all_left) (appends_more before mid after _ _ first second)

take_past : (xs ys : List ℕ) (n : ℕ) → take (length xs + n) (xs ++ ys) ≡ xs ++ take n ys
take_past [] ys n =
    let none : length {A = ℕ} [] + n ≡ n = omega arith in
    ap (λ (k : ℕ). take k ys) none
take_past (x ∷ xs) ys n =
    let one : length (x ∷ xs) + n ≡ suc (length xs + n) = omega arith in
    ap (λ (k : ℕ). take k (x ∷ (xs ++ ys))) one ∙ ap (λ (l : List ℕ). x ∷ l) (take_past xs ys n)

-- ---- what is done for a line

-- the moments may be stored as others that are the same
pub is_done : (late : Option ℤ) (last asked_for answer moment at : ℤ) (before between after : AppView) (asked : Option ControlLine) (capture : Capture) (commit : Option Numbered)
    → asked_for ≡ last → moment ≡ answer → at ≡ answer → IsPaced late asked_for answer
    → HasCaptured before between capture.number capture.state capture.shown → HasMade between after commit
    → commit ≡ option_map (λ (act : Act). (number_of commit, commit_of_act act at capture)) (act_asked asked)
    → IsDone late last before after asked (record { moment = moment; capture = capture; commit = commit })
is_done late last asked_for answer moment at before between after asked capture commit last_is moment_is at_is paced captured made commit_is = record {
  between = between;
  paced = subst (λ (x : ℤ × ℤ). IsPaced late x.0 x.1) (λ k. (last_is k, sym moment_is k)) paced;
  captured = captured;
  made = made;
  commit_is =
      commit_is
      ∙ ap (λ (z : ℤ). option_map (λ (act : Act). (number_of commit, commit_of_act act z capture)) (act_asked asked)) (at_is ∙ sym moment_is);
}

-- a moment as it is stored
pub stored_moment : (z : ℤ) → IsMoment z → to_z w64 (of_z w64 z) ≡ z
stored_moment z range = to_z-of_z w64 z (moment_fits z range)
  where
    moment_fits : (z : ℤ) → IsMoment z → FitsSigned w64 z
    moment_fits z range = grind (arith, ints)

-- the pace was asked for that moment
pub done_from : (late : Option ℤ) (last asked_for : ℤ) (before after : AppView) (asked : Option ControlLine) (entry : LineLog)
    → asked_for ≡ last → IsDone late asked_for before after asked entry → IsDone late last before after asked entry
done_from late last asked_for before after asked entry is done = subst (λ (z : ℤ). IsDone late z before after asked entry) is done

-- ---- a line that is logged

-- the line, with what was done for it
abbrev answered_as : List ℕ → Option ControlLine → LineLog → List ℕ → Answered
answered_as line asked entry row = record {
  line = line;
  asked = asked;
  at = entry.moment;
  pair = (entry.capture.number, row);
  number = number_of entry.commit;
}

module _ (late : Option ℤ) (before pass after : AppView) (log log_then : List LineLog) (last last_then : ℤ) (earlier kept kept_then : List ℕ) (answered : List Answered) (asked : Option ControlLine) (entry : LineLog) (few : length log < 4_096) (asks : (whole : List ℕ) → kept ≡ take 65 whole → IsAsked whole asked) (done : IsDone late last pass after asked entry) (log_is : log_then ≡ log ++ entry ∷ []) (last_is : last_then ≡ entry.moment) (kept_is : kept_then ≡ []) (logged : AreLogged late before pass log last earlier kept answered) where
  logged_then : log_then ≡ entries_of before.own (answered ++ answered_as logged.rest asked entry done.captured.row ∷ [])
  logged_then =
      let one = answered_as logged.rest asked entry done.captured.row in
      log_is
      ∙ ap (λ (e : LineLog). log ++ e ∷ []) (is_entry pass.own logged.rest asked entry done.captured.row done.captured.state_is done.captured.shown_is done.commit_is)
      ∙ ap (λ (o : Option Numbered). log ++ entry_of o one ∷ []) (logged.own ∙ ap (own_behind before.own) logged.log_is)
      ∙ ap (λ (l : List LineLog). l ++ entry_of (own_behind before.own (entries_of before.own answered)) one ∷ []) logged.log_is
      ∙ sym (entries_more before.own answered one)

  used_then : HasUsed before after (pairs_in (answered ++ answered_as logged.rest asked entry done.captured.row ∷ [])) (commits_in log_then)
  used_then =
      let one = answered_as logged.rest asked entry done.captured.row in
      subst (λ (l : List Pair). HasUsed before after l (commits_in log_then)) (sym (map-append (λ (x : Answered). x.pair) answered (one ∷ [])))
      (subst (λ (l : List Numbered). HasUsed before after (pairs_in answered ++ one.pair ∷ []) l) (sym (ap commits_in log_is ∙ commits_more log entry))
      (used_made before done.between after (pairs_in answered ++ one.pair ∷ []) (commits_in log) entry.commit
      (used_captured before pass done.between (pairs_in answered) (commits_in log) entry.capture.number entry.capture.state entry.capture.shown logged.used done.captured)
      done.made))

  own_then : after.own ≡ own_behind before.own log_then
  own_then =
      own_made pass done.between after entry.capture.number entry.capture.state entry.capture.shown entry.commit done.captured done.made
      ∙ ap (λ (o : Option Numbered). own_after o entry.commit) logged.own
      ∙ sym (own_more before.own log entry)
      ∙ ap (own_behind before.own) (sym log_is)

  line_logged : AreLogged late before after log_then last_then (earlier ++ 10 ∷ []) kept_then (answered ++ answered_as logged.rest asked entry done.captured.row ∷ [])
  line_logged =
      let one = answered_as logged.rest asked entry done.captured.row in
      let count : length log ≡ length answered = ap length logged.log_is ∙ entries_length before.own answered in
      record {
        rest = [];
        cut = subst (λ (l : List (List ℕ)). AreCut (earlier ++ 10 ∷ []) l []) (sym (map-append (λ (x : Answered). x.line) answered (one ∷ [])))
            (cut_closed earlier logged.rest (lines_in answered) logged.cut);
        kept_is = kept_is;
        asked = All-push (λ (x : Answered). IsAsked x.line x.asked) answered one logged.asked (asks logged.rest logged.kept_is);
        few = omega (arith, few, count, length-append answered (one ∷ []));
        paced = paced_more late (pos 0) answered one logged.paced (subst (λ (z : ℤ). IsPaced late z entry.moment) logged.last_is done.paced);
        last_is = last_is ∙ sym (last_more (pos 0) answered one);
        log_is = logged_then;
        used = used_then;
        own = own_then;
      }

  -- the answers then
  answers_then : answers_of (answered ++ answered_as logged.rest asked entry done.captured.row ∷ []) log_then
      ≡ answers_of answered log ++ answer_of asked (number_of entry.commit) entry.capture.shown
  answers_then =
      let one = answered_as logged.rest asked entry done.captured.row in
      ap (answers_of (answered ++ one ∷ [])) (log_is ∙ ap (λ (l : List LineLog). l ++ entry ∷ []) logged.log_is)
      ∙ answers_more before.own answered one entry
      ∙ ap (λ (l : List LineLog). answers_of answered l ++ answer_of asked (number_of entry.commit) entry.capture.shown) (sym logged.log_is)

  answers_before : answers_of answered log_then ≡ answers_of answered log
  answers_before =
      ap (answers_of answered) (log_is ∙ ap (λ (l : List LineLog). l ++ entry ∷ []) logged.log_is)
      ∙ answers_front before.own answered (entry ∷ [])
      ∙ ap (answers_of answered) (sym logged.log_is)

-- ---- a line that is answered

pub line_answered : (late : Option ℤ) (start talk talk_then : TalkSeen) (before pass after : AppView) (log log_then : List LineLog) (last last_then : ℤ) (earlier kept kept_then text : List ℕ) (asked : Option ControlLine) (entry : LineLog) (number : ℕ)
    → length log < 4_096 → ((whole : List ℕ) → kept ≡ take 65 whole → IsAsked whole asked) → IsDone late last pass after asked entry
    → log_then ≡ log ++ entry ∷ [] → last_then ≡ entry.moment → kept_then ≡ [] → number ≡ number_of entry.commit → text ≡ answer_of asked number entry.capture.shown
    → Appends talk.written text talk_then.written → talk_then.faults ≡ talk.faults → talk_then.opened ≡ talk.opened
    → IsServing late start talk before pass log last earlier kept → IsServing late start talk_then before after log_then last_then (earlier ++ 10 ∷ []) kept_then
line_answered late start talk talk_then before pass after log log_then last last_then earlier kept kept_then text asked entry number few asks done log_is last_is kept_is number_is text_is wrote quiet opened run = record {
  answered = run.answered ++ answered_as run.logged.rest asked entry done.captured.row ∷ [];
  logged = line_logged late before pass after log log_then last last_then earlier kept kept_then run.answered asked entry few asks done log_is last_is kept_is run.logged;
  opened = opened ∙ run.opened;
  written = record {
    written = subst (λ (l : List ℕ). Appends start.written l talk_then.written)
        (ap (λ (l : List ℕ). answers_of run.answered log ++ l) (text_is ∙ ap (λ (n : ℕ). answer_of asked n entry.capture.shown) number_is)
        ∙ sym (answers_then late before pass after log log_then last last_then earlier kept kept_then run.answered asked entry few asks done log_is last_is kept_is run.logged))
        (appends_more start.written talk.written talk_then.written (answers_of run.answered log) text run.written.written wrote);
    quiet = quiet ∙ run.written.quiet;
  };
}

-- ---- a line whose answer isn't written whole

pub line_cut_short : (late : Option ℤ) (start talk talk_then : TalkSeen) (before pass after : AppView) (log log_then : List LineLog) (last last_then : ℤ) (earlier kept kept_then text : List ℕ) (asked : Option ControlLine) (entry : LineLog) (number : ℕ)
    → length log < 4_096 → ((whole : List ℕ) → kept ≡ take 65 whole → IsAsked whole asked) → IsDone late last pass after asked entry
    → log_then ≡ log ++ entry ∷ [] → last_then ≡ entry.moment → kept_then ≡ [] → number ≡ number_of entry.commit → text ≡ answer_of asked number entry.capture.shown
    → IsWrittenInPart talk.written text talk_then.written → Rose talk.faults talk_then.faults → talk_then.opened ≡ talk.opened
    → IsServing late start talk before pass log last earlier kept → HasStopped late start talk_then before after log_then (earlier ++ 10 ∷ []) served.Failed
line_cut_short late start talk talk_then before pass after log log_then last last_then earlier kept kept_then text asked entry number few asks done log_is last_is kept_is number_is text_is wrote rose opened run =
    let one = answered_as run.logged.rest asked entry done.captured.row in
    let logged = line_logged late before pass after log log_then last last_then earlier kept kept_then run.answered asked entry few asks done log_is last_is kept_is run.logged in
    let all : answers_of (run.answered ++ one ∷ []) log_then ≡ answers_of run.answered log ++ text
    = answers_then late before pass after log log_then last last_then earlier kept kept_then run.answered asked entry few asks done log_is last_is kept_is run.logged
    ∙ ap (λ (l : List ℕ). answers_of run.answered log ++ l) (sym (text_is ∙ ap (λ (n : ℕ). answer_of asked n entry.capture.shown) number_is)) in
    let front = answers_before late before pass after log log_then last last_then earlier kept kept_then run.answered asked entry few asks done log_is last_is kept_is run.logged in
    record {
      answered = run.answered ++ one ∷ [];
      lines = ([], lines_cut (earlier ++ 10 ∷ []) logged.rest (lines_in (run.answered ++ one ∷ [])) logged.cut ∙ sym (append-nil (lines_in (run.answered ++ one ∷ []))));
      asked = logged.asked;
      few = logged.few;
      paced = logged.paced;
      log_is = logged.log_is;
      used = logged.used;
      own = logged.own;
      opened = opened ∙ run.opened;
      ends = (
        subst (λ (n : ℕ). Rose n talk_then.faults) run.written.quiet rose,
        (
          length (answers_of run.answered log) + wrote.0,
          record {
            first = run.answered;
            last = one;
            split = refl;
            whole = omega (arith, ap length front);
            cut = omega (arith, ap length all, length-append (answers_of run.answered log) text, wrote.1);
          },
          subst (λ (l : List ℕ). Appends start.written l talk_then.written)
              (sym (take_past (answers_of run.answered log) text wrote.0) ∙ ap (take (length (answers_of run.answered log) + wrote.0)) (sym all))
              (appends_more start.written talk.written talk_then.written (answers_of run.answered log) (take wrote.0 text) run.written.written wrote.2),
        ),
      );
    }

-- ---- a line that isn't answered

-- there is a line more than the answered ones
one_line_more : (late : Option ℤ) (before pass : AppView) (log : List LineLog) (last : ℤ) (earlier kept : List ℕ) (answered : List Answered)
    → (logged : AreLogged late before pass log last earlier kept answered) → whole_lines_of (earlier ++ 10 ∷ []) ≡ lines_in answered ++ logged.rest ∷ []
one_line_more late before pass log last earlier kept answered logged =
    lines_cut (earlier ++ 10 ∷ []) [] (lines_in answered ++ logged.rest ∷ []) (cut_closed earlier logged.rest (lines_in answered) logged.cut)

more_lines : (late : Option ℤ) (before pass : AppView) (log : List LineLog) (last : ℤ) (earlier kept : List ℕ) (answered : List Answered)
    → AreLogged late before pass log last earlier kept answered → length answered < length (whole_lines_of (earlier ++ 10 ∷ []))
more_lines late before pass log last earlier kept answered logged =
    omega (
      arith,
      ap length (one_line_more late before pass log last earlier kept answered logged),
      length-append (lines_in answered) (logged.rest ∷ []),
      length-map answered (λ (x : Answered). x.line),
    )

-- it is one too many
pub line_too_many : (late : Option ℤ) (start talk : TalkSeen) (before pass : AppView) (log : List LineLog) (last : ℤ) (earlier kept : List ℕ)
    → 4_096 ≤ length log → IsServing late start talk before pass log last earlier kept
    → HasStopped late start talk before pass log (earlier ++ 10 ∷ []) served.Lines
line_too_many late start talk before pass log last earlier kept full run =
    let logged = run.logged in
    let count : length log ≡ length run.answered = ap length logged.log_is ∙ entries_length before.own run.answered in
    let more = more_lines late before pass log last earlier kept run.answered logged in
    let few = logged.few in
    record {
      answered = run.answered;
      lines = (logged.rest ∷ [], one_line_more late before pass log last earlier kept run.answered logged);
      asked = logged.asked;
      few = logged.few;
      paced = logged.paced;
      log_is = logged.log_is;
      used = logged.used;
      own = logged.own;
      opened = run.opened;
      ends = (omega (arith, few, full, count), omega (arith, more, full, count), run.written);
    }

-- memory was wanting for its capture
pub line_without_memory : (late : Option ℤ) (start talk : TalkSeen) (before pass after : AppView) (log log_then : List LineLog) (last : ℤ) (earlier kept : List ℕ) (error : AllocError)
    → length log < 4_096 → after ≡ pass → log_then ≡ log → IsServing late start talk before pass log last earlier kept
    → HasStopped late start talk before after log_then (earlier ++ 10 ∷ []) (served.Memory error)
line_without_memory late start talk before pass after log log_then last earlier kept error room pass_is log_then_is run =
    subst (λ (x : AppView × List LineLog). HasStopped late start talk before x.0 x.1 (earlier ++ 10 ∷ []) (served.Memory error))
    (λ k. (sym pass_is k, sym log_then_is k)) stopped
  where
    stopped : HasStopped late start talk before pass log (earlier ++ 10 ∷ []) (served.Memory error)
    stopped =
        let logged = run.logged in
        let count : length log ≡ length run.answered = ap length logged.log_is ∙ entries_length before.own run.answered in
        record {
          answered = run.answered;
          lines = (logged.rest ∷ [], one_line_more late before pass log last earlier kept run.answered logged);
          asked = logged.asked;
          few = logged.few;
          paced = logged.paced;
          log_is = logged.log_is;
          used = logged.used;
          own = logged.own;
          opened = run.opened;
          ends = (omega (arith, room, count), more_lines late before pass log last earlier kept run.answered logged, run.written);
        }

-- ---- bytes

-- another byte of a line
pub byte_kept : (late : Option ℤ) (start talk : TalkSeen) (before pass : AppView) (log : List LineLog) (last : ℤ) (earlier kept kept_then : List ℕ) (byte : ℕ)
    → (byte ≡ 10 → ⊥) → ((whole : List ℕ) → kept ≡ take 65 whole → kept_then ≡ take 65 (whole ++ byte ∷ []))
    → IsServing late start talk before pass log last earlier kept → IsServing late start talk before pass log last (earlier ++ byte ∷ []) kept_then
byte_kept late start talk before pass log last earlier kept kept_then byte other keeps run =
    let logged = run.logged in
    record {
      answered = run.answered;
      logged = record {
        rest = logged.rest ++ byte ∷ [];
        cut = cut_longer earlier logged.rest (lines_in run.answered) byte other logged.cut;
        kept_is = keeps logged.rest logged.kept_is;
        asked = logged.asked;
        few = logged.few;
        paced = logged.paced;
        last_is = logged.last_is;
        log_is = logged.log_is;
        used = logged.used;
        own = logged.own;
      };
      opened = run.opened;
      written = run.written;
    }

-- bytes that were taken with those of the line where serving ended
pub stopped_longer : (late : Option ℤ) (start talk : TalkSeen) (before pass : AppView) (log : List LineLog) (bytes more : List ℕ) (end : Served)
    → HasStopped late start talk before pass log bytes end → HasStopped late start talk before pass log (bytes ++ more) end
stopped_longer late start talk before pass log bytes more end stopped = record {
  answered = stopped.answered;
  lines = grows_then (lines_in stopped.answered) (whole_lines_of bytes) (whole_lines_of (bytes ++ more)) stopped.lines (lines_grow bytes more);
  asked = stopped.asked;
  few = stopped.few;
  paced = stopped.paced;
  log_is = stopped.log_is;
  used = stopped.used;
  own = stopped.own;
  opened = stopped.opened;
  ends = ends_longer end (whole_lines_of bytes) (whole_lines_of (bytes ++ more)) (lines_grow bytes more) stopped.ends;
}
  where
    ends_longer : (end : Served) (lines lines_then : List (List ℕ)) → Grows lines lines_then
        → StopsServing end lines start talk stopped.answered log → StopsServing end lines_then start talk stopped.answered log
    ends_longer served.Ended lines lines_then grown ends = ends
    ends_longer served.Failed lines lines_then grown ends = ends
    ends_longer served.Lines lines lines_then grown ends =
        let longer = grows_length lines lines_then grown in
        let less = ends.1 in
        (ends.0, omega (arith, longer, less), ends.2)
    ends_longer (served.Memory error) lines lines_then grown ends =
        let longer = grows_length lines lines_then grown in
        let less = ends.1 in
        (ends.0, omega (arith, longer, less), ends.2)
