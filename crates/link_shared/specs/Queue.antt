-- The queue of commits on their way: what its passes know, its rule, and what each move does.
use Rattle.std.specs.Prelude.{◌≡◌, ℕ, ◌+◌, List, [], ◌∷◌, ◌++◌, true, false}
use mathlib.Core.Option.{some}
use lib.ListN.{get_elem?}
use Rattle.audio_handoff.specs.Cell.{Grows}
use Rattle.client_state.specs.Commit.{IsTidyCommit}
use Rattle.client_state.specs.declared.commit.Commit.{Commit}
use Rattle.link_shared.specs.declared.queue.Hand.{Hand}
use Rattle.link_shared.specs.declared.queue.Item.{Item}
use Rattle.link_shared.specs.declared.queue.Item.TheVariants as item

-- the commits among the items, and how many of the items are quits
abbrev pub commits_in : List Item → List Commit
commits_in [] = []
commits_in (item.Commit commit ∷ items) = commit ∷ commits_in items
commits_in (item.Quit ∷ items) = commits_in items

abbrev pub quits_in : List Item → ℕ
quits_in [] = 0
quits_in (item.Commit commit ∷ items) = quits_in items
quits_in (item.Quit ∷ items) = 1 + quits_in items

abbrev pub IsTidyItem : Item → Type 0
IsTidyItem (item.Commit commit) = IsTidyCommit commit
IsTidyItem item.Quit = Unit {0}

abbrev pub AreTidyItems : List Item → Type 0
AreTidyItems [] = Unit {0}
AreTidyItems (item ∷ items) = IsTidyItem item × AreTidyItems items

-- ---- the rule

-- what went in and out, and which passes push and pop
pub record Flow : Type 0 where
  pub pushed : List Commit
  pub popped : List Commit
  pub quits_pushed : ℕ
  pub quits_popped : ℕ
  pub pusher : ℕ
  pub popper : ℕ

-- One pass pushes, and knows all that was pushed; one pops, and knows all that was popped. Whatever else a pass knows is a beginning of the
-- commits pushed
pub record FitsFlow (flow : Flow) (at : ℕ) (hand : Hand) : Type 0 where
  pub pushes : hand.pushes ≡ true → (at ≡ flow.pusher) × (hand.pushed ≡ flow.pushed) × (hand.quits_pushed ≡ flow.quits_pushed)
  pub pops : hand.pops ≡ true → (at ≡ flow.popper) × (hand.popped ≡ flow.popped) × (hand.quits_popped ≡ flow.quits_popped)
  pub pushed_begins : Grows hand.pushed flow.pushed
  pub heard_begins : Grows hand.heard flow.pushed

-- Rule: What is pushed on the queue is popped in the same order, each once.
-- what was pushed is what was popped and then what the queue holds; likewise the quits, by number. Every item is tidy
pub record IsKept (items : List Item) (hands : List Hand) : Type 0 where
  pub flow : Flow
  pub order : flow.pushed ≡ flow.popped ++ commits_in items
  pub quits : flow.quits_pushed ≡ flow.quits_popped + quits_in items
  pub tidy : AreTidyItems items
  pub each : (at : ℕ) (hand : Hand) → get_elem? hands at ≡ some hand → FitsFlow flow at hand

-- ---- the moves

-- a pass that knows this beginning of the commits pushed
abbrev pub knower : List Commit → Hand
knower pushed = record { pushes = false; pops = false; pushed = pushed; popped = []; heard = []; quits_pushed = 0; quits_popped = 0 }

-- the first pass of a queue pushes and pops
abbrev pub opener : Hand
opener = record { pushes = true; pops = true; pushed = []; popped = []; heard = []; quits_pushed = 0; quits_popped = 0 }

-- the two ends, parted
abbrev pub pushing_part : Hand → Hand
pushing_part hand = record hand { pops = false; popped = []; quits_popped = 0 }

abbrev pub popping_part : Hand → Hand
popping_part hand = record hand { pushes = false; pushed = []; heard = []; quits_pushed = 0 }

-- a further pass with what this one knows of the commits pushed
abbrev pub shown_part : Hand → Hand
shown_part hand = knower hand.pushed

-- what another pass knows of the commits pushed is heard
abbrev pub after_hearing : Hand → Hand → Hand
after_hearing hand other = record hand { heard = other.pushed }

-- the popping pass takes in the pushing one
abbrev pub whole_of : Hand → Hand → Hand
whole_of hand other = record { pushes = true; pops = true; pushed = other.pushed; popped = hand.popped; heard = []; quits_pushed = other.quits_pushed; quits_popped = hand.quits_popped }

abbrev pub after_push : Hand → Item → Hand
after_push hand (item.Commit commit) = record hand { pushed = hand.pushed ++ commit ∷ [] }
after_push hand item.Quit = record hand { quits_pushed = hand.quits_pushed + 1 }

abbrev pub after_pop : Hand → Item → Hand
after_pop hand (item.Commit commit) = record hand { popped = hand.popped ++ commit ∷ [] }
after_pop hand item.Quit = record hand { quits_popped = hand.quits_popped + 1 }

-- what a push tells, and what a pop tells
abbrev pub Pushed : Hand → Item → Hand → Type 0
Pushed before item after = after ≡ after_push before item

abbrev pub Popped : Hand → Item → Hand → Type 0
Popped before item after = (after ≡ after_pop before item) × IsTidyItem item

-- ---- what the passes learn of the items that the queue holds at one moment

-- a pass that finds the queue full learns nothing
abbrev pub SeesNothing : Hand → List Item → Type 0
SeesNothing hand items = Unit {0}

-- with both ends in one hand, nothing but what the queue holds is missing
abbrev pub SeesRest : Hand → List Item → Type 0
SeesRest hand items = hand.pushes ≡ true → hand.pops ≡ true
    → (hand.pushed ≡ hand.popped ++ commits_in items) × (hand.quits_pushed ≡ hand.quits_popped + quits_in items)

-- what the pass that pushes has heard is a beginning of all that was pushed
abbrev pub SeesHeard : Hand → List Item → Type 0
SeesHeard hand items = hand.pushes ≡ true → Grows hand.heard hand.pushed
