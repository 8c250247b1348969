-- Only for proofs: what always holds of the node, the journal, the states published and the rows made of them.
use Rattle.std.specs.Prelude.{◌≡◌, ℕ, ℤ, ◌+◌, ◌<◌, ◌≤◌, ◌^◌, List, ◌∷◌, length, map, All, Some, slice_get, take}
use mathlib.Core.Option.{some}
use lib.ListN.{get_elem?}
use Rattle.audio_handoff.specs.Cell.{Pair}
use Rattle.client_state.specs.State.{IsId, IsTidyState}
use Rattle.client_state.specs.Words.{words_of_state, commit_of_words}
use Rattle.client_state.specs.declared.commit.Commit.{Commit}
use Rattle.client_state.specs.declared.state.State.{State}
use Rattle.link_node.specs.Event.{EventValue, Audio}
use Rattle.link_node.specs.Machine.{Machine}
use Rattle.link_node.specs.Runs.{published_by}

-- what was published is what the journal publishes, and both cells have the rows of that
pub record IsShown (opening : Machine) (journal : List EventValue) (published : List State) (app_made audio_made : List (List ℕ)) : Type 0 where
  pub published_are : published ≡ opening.published ∷ published_by opening journal
  pub app_rows : app_made ≡ map words_of_state published
  pub audio_rows : audio_made ≡ map words_of_state published
  pub tidy : All IsTidyState published
  pub peers_fit : All (λ state. state.peers < 2 ^ 32) published
  pub sessions_fit : All (λ state. IsId state.session) published

-- there is room for as many events as the journal takes, and for a state after each and the opening one
pub record HasRoom (most events states event_places state_places : ℕ) : Type 0 where
  pub few_events : events ≤ most
  pub most_fits : most ≤ 524_288
  pub few_states : states ≤ events + 1
  pub event_room : most ≤ event_places
  pub state_room : most + 1 ≤ state_places

-- the commits taken are the first of those popped, and all of them while the journal has room
pub record AreFirstOf (most events : ℕ) (taken popped : List Commit) : Type 0 where
  pub first : taken ≡ take (length taken) popped
  pub all : events < most → taken ≡ popped

-- the commit was read under this number
pub record IsReadAs (reads : List Pair) (number : ℕ) (commit : Commit) : Type 0 where
  pub at : ℕ
  pub row : List ℕ
  pub there : get_elem? reads at ≡ some (number, row)
  pub commit_is : commit ≡ commit_of_words row

-- each audio commit in the journal was read under its number
abbrev pub WereRead : List Pair → List EventValue → Type 0
WereRead reads es =
    (k number : ℕ) (commit : Commit) (now : ℤ) → slice_get es k ≡ Some (Audio number commit now)
    → ∥ IsReadAs reads number commit ∥₁
