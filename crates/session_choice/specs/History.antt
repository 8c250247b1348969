-- What was taken in each session that is known, and what a call answers by that.
use Rattle.std.specs.Prelude.{◌≡◌, ℤ, int_lt, nat_lt, Bool, List, [], ◌∷◌, ◌++◌, length, map, if◌then◌else◌, Option, Some, None}
use Rattle.lk_base.specs.IdOrder.{same_id}
use Rattle.lk_base.specs.declared.ids.NodeId.{NodeId}
use Rattle.lk_base.specs.declared.timeline.Timeline.{Timeline}
use Rattle.session_choice.specs.Best.{best_of}
use Rattle.session_choice.specs.Keyed.{found_by, updated_by, without_by}
use Rattle.session_choice.specs.Table.{Table}
use Rattle.session_choice.specs.Winning.{wins_over}
use Rattle.session_choice.specs.declared.known.Known.{Known}
use Rattle.session_choice.specs.declared.verdict.Saw.{Saw}
use Rattle.session_choice.specs.declared.verdict.Saw.TheVariants.{Taken, Kept, New, Full}
use Rattle.session_choice.specs.declared.verdict.Verdict.{Verdict}
use Rattle.session_choice.specs.declared.verdict.Verdict.TheVariants.{Joined, Stayed, Remeasured, Unknown}

-- a session with the timelines that it has taken, which are never none
pub record Taking : Type 0 where
  pub session : NodeId
  pub first : Timeline
  pub later : List Timeline

-- the timeline that counts
abbrev pub best_in : Taking → Timeline
best_in taking = best_of taking.first taking.later

abbrev pub with_taken : Timeline → Taking → Taking
with_taken timeline taking = record taking { later = taking.later ++ timeline ∷ [] }

abbrev pub session_of : Taking → NodeId
session_of taking = taking.session

-- the current session, its offset, and the others in their order
pub record History : Type 0 where
  pub current : Taking
  pub offset : ℤ
  pub others : List Taking

abbrev pub begun : NodeId → Timeline → Taking
begun session timeline = record { session = session; first = timeline; later = [] }

abbrev pub opening : NodeId → Timeline → ℤ → History
opening session timeline offset = record { current = begun session timeline; offset = offset; others = [] }

abbrev pub is_current : NodeId → History → Bool
is_current session h = same_id h.current.session session

abbrev pub other_in : NodeId → History → Option Taking
other_in session h = found_by session_of session h.others

abbrev pub known_in : NodeId → History → Option Taking
known_in session h = if is_current session h then Some h.current else other_in session h

-- ---- a timeline that was seen

-- Rule: A timeline seen in a known session counts there from then on exactly where its beat origin is greater than that of the one that
-- counted.
-- the answer for a session that is known, and for one that isn't
abbrev pub saw_known : Taking → Timeline → Saw
saw_known taking timeline = if int_lt (best_in taking).beat timeline.beat then Taken else Kept

abbrev pub saw_by : Option Taking → History → Timeline → Saw
saw_by (Some taking) h timeline = saw_known taking timeline
saw_by None h timeline = if nat_lt (length h.others) 64 then New else Full

-- Rule: At most 64 sessions are known beside the current one, and a further one is refused as full.
unfoldable pub saw_of : History → NodeId → Timeline → Saw
saw_of h session timeline = saw_by (known_in session h) h timeline

-- a known session takes the timeline, a new one goes last, and with no room nothing is taken
abbrev pub taken_by : Option Taking → History → NodeId → Timeline → History
taken_by (Some other) h session timeline = record h { others = updated_by session_of session (with_taken timeline) h.others }
taken_by None h session timeline =
    if nat_lt (length h.others) 64 then record h { others = h.others ++ begun session timeline ∷ [] } else h

unfoldable pub saw_after : History → NodeId → Timeline → History
saw_after h session timeline =
    if is_current session h then record h { current = with_taken timeline h.current }
    else taken_by (other_in session h) h session timeline

-- ---- an offset that was measured

abbrev pub verdict_by : Option Taking → History → ℤ → ℤ → Verdict
verdict_by (Some other) h offset now =
    if wins_over other.session offset h.current.session h.offset now then Joined else Stayed
verdict_by None h offset now = Unknown

-- Rule: The offset measured of the current session becomes its offset; one of another known session joins that where it wins over the
-- current one; otherwise nothing changes.
unfoldable pub measured_of : History → NodeId → ℤ → ℤ → Verdict
measured_of h session offset now =
    if is_current session h then Remeasured else verdict_by (other_in session h) h offset now

-- Rule: A session that wins becomes the current one, and the session that was left stays known in its place.
abbrev pub joined : Taking → ℤ → History → History
joined other offset h =
    record { current = other; offset = offset; others = updated_by session_of other.session (λ _. h.current) h.others }

abbrev pub measured_by : Option Taking → History → ℤ → ℤ → History
measured_by (Some other) h offset now =
    if wins_over other.session offset h.current.session h.offset now then joined other offset h else h
measured_by None h offset now = h

unfoldable pub measured_after : History → NodeId → ℤ → ℤ → History
measured_after h session offset now =
    if is_current session h then record h { offset = offset } else measured_by (other_in session h) h offset now

-- ---- the other calls

-- Rule: A session that is forgotten leaves the list of others; the current session can't be forgotten.
abbrev pub forgotten : NodeId → History → History
forgotten session h = record h { others = without_by session_of session h.others }

abbrev pub committed : Timeline → History → History
committed timeline h = record h { current = with_taken timeline h.current }

-- ---- what is kept of a history

abbrev pub known_of : Taking → Known
known_of taking = record { session = taking.session; timeline = best_in taking }

pub record StandsFor (table : Table) (h : History) : Type 0 where
  pub current : table.current ≡ known_of h.current
  pub offset : table.offset ≡ h.offset
  pub others : table.others ≡ map known_of h.others
