-- Only for proofs: how far a client is served.
use Rattle.std.specs.Prelude.{◌≡◌, ◌≢◌, ◌≤◌, ◌<◌, ℕ, ℤ, pos, List, [], ◌∷◌, ◌++◌, length, take, All, Option, Some, None, option_map}
use Rattle.std.specs.List.{AllByRecursion}
use Rattle.audio_handoff.specs.Cell.{Grows}
use Rattle.link_shared.specs.Passes.{AppView, HasCaptured, HasCommitted}
use Rattle.lk_outside.specs.Faults.{Rose}
use Rattle.lk_outside.specs.Pace.{IsPaced}
use Rattle.lk_outside.specs.Sink.{Appends}
use Rattle.lk_outside.specs.Source.{Takes}
use Rattle.lk_outside.specs.Talk.{TalkSeen}
use Rattle.link_live.specs.Clients.{commit_of_act}
use Rattle.link_text.specs.ControlLine.{IsAsked}
use Rattle.link_text.specs.declared.control_line.ControlLine.{ControlLine}
use Rattle.link_control.specs.Answers.{answers_of}
use Rattle.link_control.specs.Lines.{whole_lines_of}
use Rattle.link_control.specs.Log.{Answered, Numbered, act_asked, commits_in, entries_of, own_behind}
use Rattle.link_control.specs.Serving.{ArePaced, EndsServing, HasUsed, IsAnswered, IsCutShort, lines_in, pairs_in}
use Rattle.link_control.specs.declared.log.LineLog.{LineLog}
use Rattle.link_control.specs.declared.server.Kept.{Kept}
use Rattle.link_control.specs.declared.server.Served.{Served}
use Rattle.link_control.specs.declared.server.Served.TheVariants as served

-- ---- the lines

-- these are the bytes' whole lines, and this rest stands behind the last line feed, whatever follows
pub record AreCut (bytes : List ℕ) (lines : List (List ℕ)) (rest : List ℕ) : Type 0 where
  pub goes_on : (more : List ℕ) → whole_lines_of (bytes ++ more) ≡ lines ++ whole_lines_of (rest ++ more)
  pub lacks : AllByRecursion (λ b. b ≢ 10) rest

-- the moment that was answered last, and this one before any
abbrev pub last_answered : ℤ → List Answered → ℤ
last_answered last [] = last
last_answered last (one ∷ answered) = last_answered one.at answered

-- ---- what is done for one line

-- the number of a commit, 0 for none
abbrev pub number_of : Option Numbered → ℕ
number_of None = 0
number_of (Some commit) = commit.0

-- what a pass did that made this commit, or none
abbrev pub HasMade : AppView → AppView → Option Numbered → Type 0
HasMade before after None = after ≡ before
HasMade before after (Some commit) = HasCommitted before after commit.1 commit.0

-- the pace was asked, and this captured, committed and logged, for a line that asks for this
pub record IsDone (late : Option ℤ) (last : ℤ) (before after : AppView) (asked : Option ControlLine) (entry : LineLog) : Type 0 where
  pub between : AppView
  pub paced : IsPaced late last entry.moment
  pub captured : HasCaptured before between entry.capture.number entry.capture.state entry.capture.shown
  pub made : HasMade between after entry.commit
  pub commit_is : entry.commit ≡ option_map (λ done. (number_of entry.commit, commit_of_act done entry.moment entry.capture)) (act_asked asked)

-- not all of these bytes were written
abbrev pub IsWrittenInPart : Option (List ℕ) → List ℕ → Option (List ℕ) → Type 0
IsWrittenInPart before bytes after = (n : ℕ) × (n < length bytes) × Appends before (take n bytes) after

-- ---- so far

-- From an empty log and this pass: these bytes were taken, and each of their whole lines was answered so, last at this moment. Of the rest,
-- which isn't a whole line, the first 65 bytes are kept.
pub record AreLogged (late : Option ℤ) (before pass : AppView) (log : List LineLog) (last : ℤ) (bytes kept : List ℕ) (answered : List Answered) : Type 0 where
  pub rest : List ℕ
  pub cut : AreCut bytes (lines_in answered) rest
  pub kept_is : kept ≡ take 65 rest
  pub asked : All (λ one. IsAsked one.line one.asked) answered
  pub few : length answered ≤ 4_096
  pub paced : ArePaced late (pos 0) answered
  pub last_is : last ≡ last_answered (pos 0) answered
  pub log_is : log ≡ entries_of before.own answered
  pub used : HasUsed before pass (pairs_in answered) (commits_in log)
  pub own : pass.own ≡ own_behind before.own log

-- the same with the talk, which has written all answers
pub record IsServing (late : Option ℤ) (start now : TalkSeen) (before pass : AppView) (log : List LineLog) (last : ℤ) (bytes kept : List ℕ) : Type 0 where
  pub answered : List Answered
  pub logged : AreLogged late before pass log last bytes kept answered
  pub opened : now.opened ≡ start.opened
  pub written : IsAnswered start now answered log

-- the same, where the bytes are all that were taken from the talk
pub record IsHeard (late : Option ℤ) (start now : TalkSeen) (before pass : AppView) (log : List LineLog) (last : ℤ) (kept : List ℕ) : Type 0 where
  pub bytes : List ℕ
  pub taken : Takes start.left bytes now.left
  pub serving : IsServing late start now before pass log last bytes kept

-- ---- the end at a line

-- how serving ends at one of these lines: it isn't the client's end, nor a read that failed
abbrev pub StopsServing : Served → List (List ℕ) → TalkSeen → TalkSeen → List Answered → List LineLog → Type 0
StopsServing served.Ended lines start now answered log = ⊥
StopsServing served.Failed lines start now answered log =
    Rose start.faults now.faults
    × ((n : ℕ) × IsCutShort answered log n × Appends start.written (take n (answers_of answered log)) now.written)
StopsServing served.Lines lines start now answered log = EndsServing served.Lines lines start now answered log
StopsServing (served.Memory error) lines start now answered log = EndsServing (served.Memory error) lines start now answered log

-- serving ended at a line that these bytes hold
pub record HasStopped (late : Option ℤ) (start now : TalkSeen) (before pass : AppView) (log : List LineLog) (bytes : List ℕ) (end : Served) : Type 0 where
  pub answered : List Answered
  pub lines : Grows (lines_in answered) (whole_lines_of bytes)
  pub asked : All (λ one. IsAsked one.line one.asked) answered
  pub few : length answered ≤ 4_096
  pub paced : ArePaced late (pos 0) answered
  pub log_is : log ≡ entries_of before.own answered
  pub used : HasUsed before pass (pairs_in answered) (commits_in log)
  pub own : pass.own ≡ own_behind before.own log
  pub opened : now.opened ≡ start.opened
  pub ends : StopsServing end (whole_lines_of bytes) start now answered log

-- serving goes on, or it ended
abbrev pub GoesOn : Option ℤ → TalkSeen → TalkSeen → AppView → AppView → List LineLog → ℤ → List ℕ → List ℕ → Option Served → Type 0
GoesOn late start now before pass log last bytes kept None = IsServing late start now before pass log last bytes kept
GoesOn late start now before pass log last bytes kept (Some end) = HasStopped late start now before pass log bytes end

-- Some bytes of the client were taken: wherever serving stood before them, it goes on or ended there. `kept` is what is kept of the line
-- that is read, with the moment that was answered last.
abbrev pub TakesBytes : Option ℤ → TalkSeen → TalkSeen → AppView → AppView → List LineLog → List LineLog → Kept → Kept → List ℕ → Option Served → Type 0
TakesBytes late now now_then pass pass_then log log_then kept kept_then bytes ended =
    (start : TalkSeen) (before : AppView) (earlier : List ℕ)
    → IsServing late start now before pass log kept.last earlier kept.line.items
    → GoesOn late start now_then before pass_then log_then kept_then.last (earlier ++ bytes) kept_then.line.items ended
