-- What serving a client promises: what was logged, what was answered, and what the pass did.
use Rattle.std.specs.Prelude.{◌≡◌, ◌≤◌, ◌<◌, ◌⊎◌, ℕ, ℤ, pos, ◌+◌, ◌-◌, ◌*◌, ◌^◌, true, List, [], ◌∷◌, ◌++◌, length, map, take, All, Option, IfSome}
use Rattle.std.specs.Int.{int_min}
use mathlib.Core.Option.{some}
use lib.ListN.{get_elem?}
use Rattle.audio_handoff.specs.Cell.{Grows, NumbersNeverFall, Pair}
use Rattle.client_state.specs.declared.commit.Commit.{Commit}
use Rattle.lk_outside.specs.Faults.{Rose}
use Rattle.lk_outside.specs.Pace.{IsPaced}
use Rattle.lk_outside.specs.Sink.{Appends}
use Rattle.lk_outside.specs.Source.{IsAtEnd, Takes}
use Rattle.lk_outside.specs.Talk.{TalkSeen}
use Rattle.link_shared.specs.Passes.{AppView}
use Rattle.link_text.specs.ControlLine.{IsAsked}
use Rattle.link_live.specs.ScriptRun.{AreAmong}
use Rattle.link_control.specs.Answers.{answers_of}
use Rattle.link_control.specs.Lines.{whole_lines_of}
use Rattle.link_control.specs.Log.{Answered, AreCounted, Numbered, commits_in, entries_of, own_behind}
use Rattle.link_control.specs.declared.log.LineLog.{LineLog}
use Rattle.link_control.specs.declared.server.Served.{Served}
use Rattle.link_control.specs.declared.server.Served.TheVariants as served

-- ---- the lines

abbrev pub lines_in : List Answered → List (List ℕ)
lines_in answered = map (λ one. one.line) answered

abbrev pub pairs_in : List Answered → List Pair
pairs_in answered = map (λ one. one.pair) answered

-- the pace was asked for each line, for the moment that it had answered last, and for 0 at first
abbrev pub ArePaced : Option ℤ → ℤ → List Answered → Type 0
ArePaced late last [] = Unit {0}
ArePaced late last (one ∷ answered) = IsPaced late last one.at × ArePaced late one.at answered

-- where the pace tells how late it is, that is added for each line, up to the last moment
abbrev pub AreLate : Option ℤ → List LineLog → Type 0
AreLate late log =
    IfSome late (λ d. (k : ℕ) (entry : LineLog) (lateness : ℕ) → d ≡ pos lateness → get_elem? log k ≡ some entry
    → entry.moment ≡ int_min (pos ((k + 1) * lateness)) (pos (2 ^ 55)))

-- ---- the pass

-- the commit stands among those pushed at its number, which counts from 1
abbrev pub StandsIn : List Commit → Numbered → Type 0
StandsIn pushed commit = (1 ≤ commit.0) × (get_elem? pushed (commit.0 - 1) ≡ some commit.1)

-- what a pass did that captured these pairs and made these commits
pub record HasUsed (before after : AppView) (pairs : List Pair) (commits : List Numbered) : Type 0 where
  pub grown : List Pair
  pub seen : after.seen ≡ before.seen ++ grown
  pub among : AreAmong pairs grown
  -- none is older than one before it, or than one that the pass had captured
  pub never_falls : NumbersNeverFall pairs
  pub not_older : 0 < length pairs → NumbersNeverFall after.seen
  pub pushed : Grows before.pushed after.pushed
  pub stand : All (StandsIn after.pushed) commits
  pub made : after.made ≡ before.made + length commits
  pub room : after.room ≡ before.room
  pub sole : after.sole ≡ before.sole
  -- from the only pass, whose commits are all that were pushed
  pub alone : before.sole ≡ true → before.made ≡ length before.pushed
      → (after.pushed ≡ before.pushed ++ map (λ commit. commit.1) commits) × AreCounted before.made commits

-- ---- how it ends

-- these many bytes end within the answer of the last line
pub record IsCutShort (answered : List Answered) (log : List LineLog) (n : ℕ) : Type 0 where
  pub first : List Answered
  pub last : Answered
  pub split : answered ≡ first ++ last ∷ []
  pub whole : length (answers_of first log) ≤ n
  pub cut : n < length (answers_of answered log)

-- all answers were written, and no call failed
pub record IsAnswered (before after : TalkSeen) (answered : List Answered) (log : List LineLog) : Type 0 where
  pub written : Appends before.written (answers_of answered log) after.written
  pub quiet : after.faults ≡ before.faults

-- Rule: Serving ends well where the client has ended, and else with a failed talk, with more than 4,096 lines, or for want of memory.
-- Where the bytes that were taken have these whole lines: the client ended, and each was answered.
abbrev pub EndsServing : Served → List (List ℕ) → TalkSeen → TalkSeen → List Answered → List LineLog → Type 0
EndsServing served.Ended lines before after answered log =
    (lines_in answered ≡ lines) × IsAtEnd after.left × IsAnswered before after answered log
-- The talk failed: in a read, and each was answered, or in the answer of the last line that is logged.
EndsServing served.Failed lines before after answered log =
    Rose before.faults after.faults
    × (((lines_in answered ≡ lines) × Appends before.written (answers_of answered log) after.written)
    ⊎ ((n : ℕ) × IsCutShort answered log n × Appends before.written (take n (answers_of answered log)) after.written))
-- There is one line more than are answered.
EndsServing served.Lines lines before after answered log =
    (length answered ≡ 4_096) × (4_096 < length lines) × IsAnswered before after answered log
-- Memory was wanting for the capture of the next line.
EndsServing (served.Memory error) lines before after answered log =
    (length answered < 4_096) × (length answered < length lines) × IsAnswered before after answered log

-- ---- the whole

-- Rule: A client's lines are answered each once and in order, whatever pieces they come in, and at most 4,096 of them.
-- From an empty log: these bytes were taken, however they were cut, and the first of their whole lines were answered, each once and in
-- order, by what was captured and committed for it.
pub record HasServed (late : Option ℤ) (talk talk_then : TalkSeen) (before after : AppView) (log : List LineLog) (end : Served) : Type 0 where
  pub bytes : List ℕ
  pub taken : Takes talk.left bytes talk_then.left
  pub opened : talk_then.opened ≡ talk.opened
  pub answered : List Answered
  pub lines : Grows (lines_in answered) (whole_lines_of bytes)
  pub asked : All (λ one. IsAsked one.line one.asked) answered
  pub few : length answered ≤ 4_096
  pub paced : ArePaced late (pos 0) answered
  pub moments : AreLate late log
  pub log_is : log ≡ entries_of before.own answered
  pub ends : EndsServing end (whole_lines_of bytes) talk talk_then answered log
  pub used : HasUsed before after (pairs_in answered) (commits_in log)
  pub own : after.own ≡ own_behind before.own log
