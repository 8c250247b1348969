-- The journal: the events taken, in the one order, and what is offered to it.
use Rattle.std.specs.Prelude.{◌≡◌, ℕ, ℤ, ◌<◌, ◌≤◌, ◌-◌, List, [], ◌∷◌, ◌++◌, length, Bool, true, false, Some, slice_get}
use Rattle.client_state.specs.declared.commit.Commit.{Commit}
use Rattle.link_node.specs.Event.{EventValue, Rx, Tick, App, Audio, End, SendingValue, audio_after}
use Rattle.link_node.specs.Machine.{Machine}
use Rattle.link_node.specs.Runs.{machine_after, sent_by}

-- ---- what stands in it

-- Rule: The application commits in the journal are the first that were pushed, each once and in order.
abbrev pub app_commits_in : List EventValue → List Commit
app_commits_in [] = []
app_commits_in (Rx gate from bytes now ∷ es) = app_commits_in es
app_commits_in (Tick now ∷ es) = app_commits_in es
app_commits_in (App commit now ∷ es) = commit ∷ app_commits_in es
app_commits_in (Audio number commit now ∷ es) = app_commits_in es
app_commits_in (End now ∷ es) = app_commits_in es

-- the number of the last audio commit, and this one where there is none
abbrev pub last_audio_in : ℕ → List EventValue → ℕ
last_audio_in held [] = held
last_audio_in held (e ∷ es) = last_audio_in (audio_after held e) es

-- each audio commit is the one that was made under its number, which counts from 1
abbrev pub AreCarried : List Commit → List EventValue → Type 0
AreCarried made es =
    (k number : ℕ) (commit : Commit) (now : ℤ) → slice_get es k ≡ Some (Audio number commit now)
    → (1 ≤ number) × (slice_get made (number - 1) ≡ Some commit)

-- ---- what is offered to it

-- Rule: Events go into the journal in the order offered, until it is full; from the first without room on none is taken.
-- Events that are offered one after the other are taken as long as there is room: each is a step of the machine, stands in the journal,
-- and has its datagrams appended. From the first one on for which there is none, none is taken, and that is told.
pub record IsOffered (opening : Machine) (most : ℕ) (events before after : List EventValue) (unsent sent : List SendingValue) (full : Bool) : Type 0 where
  pub taken : List EventValue
  pub refused : List EventValue
  pub split : events ≡ taken ++ refused
  pub journal : after ≡ before ++ taken
  pub sends : sent ≡ unsent ++ sent_by (machine_after opening before) taken
  pub all : full ≡ false → refused ≡ []
  pub no_room : full ≡ true → (length after ≡ most) × (0 < length refused)
  pub fits : length after ≤ most
