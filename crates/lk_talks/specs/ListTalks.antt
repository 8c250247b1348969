-- What callers see of talks in memory.
use Rattle.std.specs.Prelude.{◌≡◌, ◌≤◌, ℕ, ◌+◌, ◌-◌, Bool, true, false, List, [], ◌++◌, drop, take, length, map, slice_index, slice_set, Option, Some}
use Rattle.lk_base.specs.declared.endpoint.Endpoint.{Endpoint}
use Rattle.lk_talks.specs.Failures.{next_call_in}
use Rattle.lk_talks.specs.Steps.{comes_in, goes_in, passed_by, sent_in}
use Rattle.lk_talks.specs.Talks.{Passed, TalksSeen}
use Rattle.lk_talks.specs.declared.list_talks.ListTalks.{ListTalks}
use Rattle.lk_talks.specs.declared.step.Step.{Step}
use Rattle.lk_talks.specs.declared.talks.Admitted.{Admitted}
use Rattle.lk_talks.specs.declared.talks.Admitted.TheVariants as admitted
use Rattle.lk_talks.specs.declared.talks.Heard.{Heard}
use Rattle.lk_talks.specs.declared.talks.Heard.TheVariants as heard
use Rattle.lk_talks.specs.declared.talks.Said.{Said}
use Rattle.lk_talks.specs.declared.talks.Said.TheVariants as said

-- what passed, in order
abbrev pub passed_of : ListTalks → List Passed
passed_of talks = map passed_by talks.rows.items

-- the endpoint that they were opened at last, if they were
abbrev pub opened_of : ListTalks → Option Endpoint
opened_of talks = talks.opened

-- for how many more rows the record has room
abbrev pub room_left_of : ListTalks → ℕ
room_left_of talks = talks.room - length talks.rows.items

-- the list of failing calls
abbrev pub failing_of : ListTalks → List (ℕ × ℕ)
failing_of talks = talks.failures.failing.items

-- how many calls of each kind were made, up to the last value of a count's type
abbrev pub calls_of : ListTalks → List ℕ
calls_of talks = talks.failures.calls

-- the number of the next call of a kind
abbrev pub call_of : ListTalks → ℕ → ℕ
call_of talks kind = next_call_in (calls_of talks) kind

-- how many calls failed, up to the last value of the count's type
abbrev pub faults_of : ListTalks → ℕ
faults_of talks = talks.failures.faults

-- what is seen of them, as of talks that always tell
abbrev pub seen_of : ListTalks → TalksSeen
seen_of talks = record {
  passed = Some (passed_of talks);
  opened = opened_of talks;
  faults = faults_of talks;
}

-- no call is to fail while there is room
abbrev pub IsQuietTalks : ListTalks → Type 0
IsQuietTalks talks = failing_of talks ≡ []

-- one more call of a kind: it is counted, the list of failing calls stays, and at most one row of room is taken
pub record IsCall (kind : ℕ) (before after : ListTalks) : Type 0 where
  pub counted : calls_of after ≡ slice_set (calls_of before) kind (call_of before kind)
  pub failing : failing_of after ≡ failing_of before
  pub room : room_left_of before ≤ room_left_of after + 1

-- ---- clients

-- the steps taken that may still tell of the client in a seat
abbrev pub ahead_of : ListTalks → ℕ → List Step
ahead_of talks seat = drop (slice_index talks.nexts seat) (take talks.taken talks.steps.items)

-- the bytes that the client in a seat has sent, and that weren't heard
abbrev pub rest_of : ListTalks → ℕ → List ℕ
rest_of talks seat = drop (slice_index talks.heard seat) (sent_in seat (ahead_of talks seat))

-- whether the client in a seat went
abbrev pub went_of : ListTalks → ℕ → Bool
went_of talks seat = goes_in seat (ahead_of talks seat)

-- whether a client is there to be admitted
abbrev pub is_there_of : ListTalks → Bool
is_there_of talks = comes_in (drop talks.next (take talks.taken talks.steps.items))

-- Rule: A client is admitted where one is there.
abbrev pub IsAdmittedOf : Bool → Admitted → Type 0
IsAdmittedOf there admitted.Came = there ≡ true
IsAdmittedOf there admitted.Nobody = there ≡ false
IsAdmittedOf there admitted.Failed = Unit {0}

-- Rule: A client's bytes are heard in order, each once, and that it left behind the last of them.
abbrev pub IsHeardOf : List ℕ → List ℕ → Bool → List ℕ → Heard → Type 0
IsHeardOf before after went buf (heard.Got n) = before ≡ take n buf ++ after
IsHeardOf before after went buf heard.Nothing = (before ≡ []) × (went ≡ false) × (after ≡ before)
IsHeardOf before after went buf heard.Left = (before ≡ []) × (went ≡ true)
IsHeardOf before after went buf heard.Failed = after ≡ before

-- Rule: What is said to a client that went isn't taken, and it is told that it left.
abbrev pub IsSaidOf : Bool → Said → Type 0
IsSaidOf went said.Taken = went ≡ false
IsSaidOf went said.Left = went ≡ true
IsSaidOf went said.Failed = Unit {0}
