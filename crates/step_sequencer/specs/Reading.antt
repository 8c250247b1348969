-- How a row is read. Only proofs and private functions speak of it.
use Rattle.std.specs.Prelude.{◌≡◌, ◌≢◌, ◌≤◌, ℕ, Bool, List, ◌++◌, map, length, take}
use Rattle.step_sequencer.specs.Pattern.{mark_of, row_of}

-- the row of that name and these marks stands at the front of the text, and a rest follows it
pub record IsRowOf (name text : List ℕ) (marks : List Bool) (rest : List ℕ) : Type 0 where
  pub sixteen : length marks ≡ 16
  pub split : text ≡ row_of name marks ++ rest

-- these 16 marks stand at the front of the text
pub record AreMarksOf (text : List ℕ) (marks : List Bool) : Type 0 where
  pub sixteen : length marks ≡ 16
  pub long : 16 ≤ length text
  pub front : map mark_of marks ≡ take 16 text

-- no marks do
abbrev pub LacksMarks : List ℕ → Type 0
LacksMarks text = (marks : List Bool) (rest : List ℕ) → length marks ≡ 16 → text ≢ map mark_of marks ++ rest
