-- What the steps of talks in memory say of their clients.
use Rattle.std.specs.Prelude.{ℕ, Bool, true, false, ◌==◌, if◌then◌else◌, List, [], ◌∷◌, ◌++◌}
use Rattle.lk_talks.specs.Talks.{Passed}
use Rattle.lk_talks.specs.Talks as passed
use Rattle.lk_talks.specs.declared.step.Happened.{Happened}
use Rattle.lk_talks.specs.declared.step.Happened.TheVariants as happened
use Rattle.lk_talks.specs.declared.step.Step.{Step}
use Rattle.lk_talks.specs.declared.step.Step.TheVariants as step

-- what a row of the record says that passed
abbrev pub passed_by : Happened → Passed
passed_by (happened.Came seat) = passed.comes seat
passed_by (happened.Heard seat piece) = passed.hears seat piece.items
passed_by (happened.Said seat piece) = passed.says seat piece.items
passed_by (happened.Left seat) = passed.leaves seat
passed_by (happened.Shut seat) = passed.shuts seat

-- the bytes that a row says were said to the client in a seat
abbrev pub said_by : ℕ → Happened → List ℕ
said_by seat (happened.Came other) = []
said_by seat (happened.Heard other piece) = []
said_by seat (happened.Said other piece) = if other == seat then piece.items else []
said_by seat (happened.Left other) = []
said_by seat (happened.Shut other) = []

-- what the client in a seat sends in some steps, until it goes
abbrev pub sent_in : ℕ → List Step → List ℕ
sent_in seat [] = []
sent_in seat (step.Comes ∷ steps) = sent_in seat steps
sent_in seat (step.Sends other bytes ∷ steps) = if other == seat then bytes.items ++ sent_in seat steps else sent_in seat steps
sent_in seat (step.Goes other ∷ steps) = if other == seat then [] else sent_in seat steps
sent_in seat (step.Clogs other ∷ steps) = sent_in seat steps
sent_in seat (step.Clears other ∷ steps) = sent_in seat steps
sent_in seat (step.Rests ∷ steps) = sent_in seat steps

-- whether the client in a seat goes in some steps
abbrev pub goes_in : ℕ → List Step → Bool
goes_in seat [] = false
goes_in seat (step.Comes ∷ steps) = goes_in seat steps
goes_in seat (step.Sends other bytes ∷ steps) = goes_in seat steps
goes_in seat (step.Goes other ∷ steps) = if other == seat then true else goes_in seat steps
goes_in seat (step.Clogs other ∷ steps) = goes_in seat steps
goes_in seat (step.Clears other ∷ steps) = goes_in seat steps
goes_in seat (step.Rests ∷ steps) = goes_in seat steps

-- whether a client comes in some steps
abbrev pub comes_in : List Step → Bool
comes_in [] = false
comes_in (step.Comes ∷ steps) = true
comes_in (step.Sends other bytes ∷ steps) = comes_in steps
comes_in (step.Goes other ∷ steps) = comes_in steps
comes_in (step.Clogs other ∷ steps) = comes_in steps
comes_in (step.Clears other ∷ steps) = comes_in steps
comes_in (step.Rests ∷ steps) = comes_in steps
