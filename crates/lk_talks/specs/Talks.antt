-- What passes between clients and who serves them, and what the calls of talks do to it.
use Rattle.std.specs.Prelude.{◌≡◌, ◌≤◌, ℕ, Bool, true, false, List, [], ◌∷◌, ◌++◌, take, Option, option_map}
use Rattle.lk_base.specs.declared.endpoint.Endpoint.{Endpoint}
use Rattle.lk_outside.specs.Faults.{Rose}
use Rattle.lk_talks.specs.declared.talks.Admitted.{Admitted}
use Rattle.lk_talks.specs.declared.talks.Admitted.TheVariants as admitted
use Rattle.lk_talks.specs.declared.talks.Heard.{Heard}
use Rattle.lk_talks.specs.declared.talks.Heard.TheVariants as heard
use Rattle.lk_talks.specs.declared.talks.Said.{Said}
use Rattle.lk_talks.specs.declared.talks.Said.TheVariants as said
use Rattle.lk_talks.specs.declared.talks.Waited.{Waited}
use Rattle.lk_talks.specs.declared.talks.Waited.TheVariants as waited

-- a client comes to a seat, bytes of it are heard, bytes are said to it, it leaves, or it is let go
pub data Passed : Type 0 where
  comes : (seat : ℕ) → Passed
  hears : (seat : ℕ) → (bytes : List ℕ) → Passed
  says : (seat : ℕ) → (bytes : List ℕ) → Passed
  leaves : (seat : ℕ) → Passed
  shuts : (seat : ℕ) → Passed

-- what passed, in order, where the talks tell it, the endpoint that they are opened at, and their count of failures
pub record TalksSeen : Type 0 where
  pub passed : Option (List Passed)
  pub opened : Option Endpoint
  pub faults : ℕ

-- where told, just this passed more
abbrev pub Passes : Option (List Passed) → List Passed → Option (List Passed) → Type 0
Passes before more after = after ≡ option_map (λ all. all ++ more) before

-- ---- what passes in a call

abbrev pub passed_in_admitting : ℕ → Admitted → List Passed
passed_in_admitting seat admitted.Came = comes seat ∷ []
passed_in_admitting seat admitted.Nobody = []
passed_in_admitting seat admitted.Failed = []

abbrev pub passed_in_hearing : ℕ → List ℕ → Heard → List Passed
passed_in_hearing seat buf (heard.Got n) = hears seat (take n buf) ∷ []
passed_in_hearing seat buf heard.Nothing = []
passed_in_hearing seat buf heard.Left = leaves seat ∷ []
passed_in_hearing seat buf heard.Failed = []

abbrev pub passed_in_saying : ℕ → List ℕ → Said → List Passed
passed_in_saying seat bytes said.Taken = says seat bytes ∷ []
passed_in_saying seat bytes said.Left = leaves seat ∷ []
passed_in_saying seat bytes said.Failed = []

abbrev pub passed_in_shutting : ℕ → Bool → List Passed
passed_in_shutting seat true = shuts seat ∷ []
passed_in_shutting seat false = []

-- bytes that were heard are at least one, and find room
abbrev pub IsHeard : ℕ → Heard → Type 0
IsHeard room (heard.Got n) = (1 ≤ n) × (n ≤ room)
IsHeard room heard.Nothing = Unit {0}
IsHeard room heard.Left = Unit {0}
IsHeard room heard.Failed = Unit {0}

-- ---- faults

abbrev pub HasWaitCause : ℕ → ℕ → Waited → Type 0
HasWaitCause before now waited.Went = now ≡ before
HasWaitCause before now waited.Closed = now ≡ before
HasWaitCause before now waited.Failed = Rose before now

abbrev pub HasAdmitCause : ℕ → ℕ → Admitted → Type 0
HasAdmitCause before now admitted.Came = now ≡ before
HasAdmitCause before now admitted.Nobody = now ≡ before
HasAdmitCause before now admitted.Failed = Rose before now

abbrev pub HasHearCause : ℕ → ℕ → Heard → Type 0
HasHearCause before now (heard.Got n) = now ≡ before
HasHearCause before now heard.Nothing = now ≡ before
HasHearCause before now heard.Left = now ≡ before
HasHearCause before now heard.Failed = Rose before now

abbrev pub HasSayCause : ℕ → ℕ → Said → Type 0
HasSayCause before now said.Taken = now ≡ before
HasSayCause before now said.Left = now ≡ before
HasSayCause before now said.Failed = Rose before now

abbrev pub HasCause : ℕ → ℕ → Bool → Type 0
HasCause before now true = now ≡ before
HasCause before now false = Rose before now
