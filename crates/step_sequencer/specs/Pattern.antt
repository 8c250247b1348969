-- Patterns of 16 steps: their text, and what is struck at a step.
use Rattle.std.specs.Prelude.{◌≡◌, ◌≢◌, ℕ, zero, suc, ℤ, pos, unsigned_abs, Bool, false, if◌then◌else◌, List, [], ◌∷◌, ◌++◌, map, length, slice_index_or, codes}
use Rattle.std.specs.Int.{int_rem_euclid}
use Rattle.step_sequencer.specs.declared.pattern.Pattern.{Pattern}
use Rattle.step_sequencer.specs.declared.pattern.Strokes.{Strokes}

-- what the type says of a pattern in code: each voice has 16 marks
pub record IsPattern (pattern : Pattern) : Type 0 where
  pub kick : length pattern.kick ≡ 16
  pub snare : length pattern.snare ≡ 16
  pub hat : length pattern.hat ≡ 16

-- ---- the text

-- `x` is struck, `.` isn't
abbrev pub mark_of : Bool → ℕ
mark_of struck = if struck then 120 else 46

-- a name, a space, the marks, a line feed
unfoldable pub row_of : List ℕ → List Bool → List ℕ
row_of name marks = name ++ 32 ∷ map mark_of marks ++ 10 ∷ []

abbrev pub kick_name : List ℕ
kick_name = codes "kick"

abbrev pub snare_name : List ℕ
snare_name = codes "snare"

abbrev pub hat_name : List ℕ
hat_name = codes "hat"

-- Rule: A pattern is three lines, `kick`, `snare` and `hat`, each with 16 marks, `x` for a stroke and `.` for none.
-- three rows
unfoldable pub spelled_of : Pattern → List ℕ
spelled_of pattern = row_of kick_name pattern.kick ++ row_of snare_name pattern.snare ++ row_of hat_name pattern.hat

-- ---- texts at fault

-- a row of that name, of some 16 marks, stands at the front of the text, and a rest follows it
pub record BeginsWithRow (name text rest : List ℕ) : Type 0 where
  pub marks : List Bool
  pub sixteen : length marks ≡ 16
  pub split : text ≡ row_of name marks ++ rest

-- no such row does
abbrev pub LacksRow : List ℕ → List ℕ → Type 0
LacksRow name text = (marks : List Bool) (rest : List ℕ) → length marks ≡ 16 → text ≢ row_of name marks ++ rest

-- Rule: A pattern is refused by its first line at fault: a row that is missing or misspelled, or anything in a fourth line.
abbrev pub IsFaultAt : List ℕ → ℕ → Type 0
IsFaultAt text zero = ⊥
IsFaultAt text (suc zero) = LacksRow kick_name text
IsFaultAt text (suc (suc zero)) = (second : List ℕ) × BeginsWithRow kick_name text second × LacksRow snare_name second
IsFaultAt text (suc (suc (suc zero))) =
    (second : List ℕ) × (third : List ℕ)
    × BeginsWithRow kick_name text second × BeginsWithRow snare_name second third × LacksRow hat_name third
IsFaultAt text (suc (suc (suc (suc zero)))) =
    (second : List ℕ) × (third : List ℕ) × (fourth : List ℕ)
    × BeginsWithRow kick_name text second × BeginsWithRow snare_name second third × BeginsWithRow hat_name third fourth
    × (fourth ≢ [])
IsFaultAt text (suc (suc (suc (suc (suc n))))) = ⊥

-- ---- what is struck

-- Rule: A pattern begins again after 16 steps.
unfoldable pub place_of : ℤ → ℕ
place_of step = unsigned_abs (int_rem_euclid step (pos 16))

-- Rule: The strokes of a step are those at its place in the pattern, which begins again after 16 steps.
unfoldable pub strokes_at : Pattern → ℤ → Strokes
strokes_at pattern step =
    record { kick = slice_index_or pattern.kick (place_of step) false; snare = slice_index_or pattern.snare (place_of step) false; hat = slice_index_or pattern.hat (place_of step) false }
