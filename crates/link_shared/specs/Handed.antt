-- Only for proofs: the applications' passes that were handed in, each without its share of the ledger.
use Rattle.std.specs.Prelude.{◌≡◌, ℕ, ◌+◌, ◌≤◌, List, Option, length, All, sum_by, nat_eq}
use Rattle.atomic_table.specs.Seated.{TableId}
use Rattle.audio_handoff.specs.Cell.{Pair, Grows}
use Rattle.client_state.specs.declared.commit.Commit.{Commit}
use Rattle.link_shared.specs.Passes.{AppView}

-- Which cell and which queue it is of, and what the pass knew
pub record HandedView : Type 0 where
  pub cell : TableId
  pub queue : TableId
  pub seen : List Pair
  pub pushed : List Commit
  pub made : ℕ
  pub own : Option (ℕ × Commit)
  pub room : ℕ

-- the pass that it was, where the ledger has so many parts: one for each pass that can be made, so the only pass had all of them
abbrev pub app_view_of : ℕ → HandedView → AppView
app_view_of whole pass = record {
  seen = pass.seen;
  pushed = pass.pushed;
  made = pass.made;
  own = pass.own;
  room = pass.room;
  sole = nat_eq (pass.room + 1) whole;
}

-- how many parts of the ledger the passes had, and how many commits they made, all together
abbrev pub parts_of : List HandedView → ℕ
parts_of passes = sum_by (λ pass. pass.room + 1) passes

abbrev pub made_of : List HandedView → ℕ
made_of passes = sum_by (λ pass. pass.made) passes

abbrev pub IsOf : TableId → TableId → HandedView → Type 0
IsOf cell queue pass = (pass.cell ≡ cell) × (pass.queue ≡ queue)

-- the passes are of that cell and that queue, and their shares are merged into one of so many parts and that amount
pub record AreHanded (cell queue : TableId) (whole parts : ℕ) (passes : List HandedView) (share amount : ℕ) : Type 0 where
  pub few : length passes ≤ 16
  pub each : All (IsOf cell queue) passes
  pub whole_is : whole ≡ parts
  pub within : share ≤ parts
  pub share_is : share ≡ parts_of passes
  pub amount_is : amount ≡ made_of passes

-- what the pass knew is a beginning of what was read and of what was pushed
pub record WasTold (seen : List Pair) (pushed : List Commit) (pass : HandedView) : Type 0 where
  pub seen_begins : Grows pass.seen seen
  pub pushed_begins : Grows pass.pushed pushed
