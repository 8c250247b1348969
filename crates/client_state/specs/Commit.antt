-- What a commit carries.
use Rattle.std.specs.Prelude.{ℕ, ℤ, Bool, ◌&&◌, not, if◌then◌else◌, Option, Some, None}
use Rattle.std.specs.Option.{ForSome}
use Rattle.std.specs.Ordering.{int_eq}
use Rattle.lk_base.specs.Ranges.{IsQuantum, IsWithinLimit}
use Rattle.lk_base.specs.Timeline.{IsTidy}
use Rattle.lk_base.specs.declared.start.ClientStart.{ClientStart}
use Rattle.lk_base.specs.declared.timeline.Timeline.{Timeline}
use Rattle.client_state.specs.declared.commit.Commit.{Commit}
use Rattle.client_state.specs.declared.state.State.{State}

pub record IsTidyStart (start : ClientStart) : Type 0 where
  pub time : IsWithinLimit start.time
  pub stamp : IsWithinLimit start.stamp

pub record IsTidyCommit (commit : Commit) : Type 0 where
  pub timeline : ForSome commit.timeline IsTidy
  pub start : ForSome commit.start IsTidyStart
  pub quantum : ForSome commit.quantum IsQuantum
  pub at : IsWithinLimit commit.at

-- an own last commit is tidy, if there is one
abbrev pub IsTidyOwn : Option (ℕ × Commit) → Type 0
IsTidyOwn last = ForSome last (λ numbered. IsTidyCommit numbered.1)

abbrev pub same_timeline : Timeline → Timeline → Bool
same_timeline a b = int_eq a.mpb b.mpb && (int_eq a.beat b.beat && int_eq a.time b.time)

abbrev pub same_bool : Bool → Bool → Bool
same_bool a b = if a then b else not b

-- playing and time are the same, whatever the stamps
abbrev pub same_playing : ClientStart → ClientStart → Bool
same_playing a b = same_bool a.playing b.playing && int_eq a.time b.time

-- the new timeline, where it differs from the old or the shown one
abbrev pub timeline_between : Timeline → Timeline → Timeline → Option Timeline
timeline_between old shown new = if same_timeline new old && same_timeline new shown then None else Some new

-- the new start with this stamp, where its playing or time differs from the old or the shown one's
abbrev pub start_between : ClientStart → ClientStart → ClientStart → ℤ → Option ClientStart
start_between old shown new now =
    if same_playing new old && same_playing new shown then None else Some (record new { stamp = now })

-- the new quantum, where it differs from the old or the shown one
abbrev pub quantum_between : ℤ → ℤ → ℤ → Option ℤ
quantum_between old shown new = if int_eq new old && int_eq new shown then None else Some new

-- Rule: A commit carries what was edited: of timeline, start and quantum those that differ from the captured or the shown state.
unfoldable pub commit_between : State → State → State → ℤ → Commit
commit_between old shown new now = record {
  timeline = timeline_between old.timeline shown.timeline new.timeline;
  start = start_between old.start shown.start new.start now;
  quantum = quantum_between old.quantum shown.quantum new.quantum;
  at = now;
}
