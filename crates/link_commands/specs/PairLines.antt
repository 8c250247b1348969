-- The grammar of pairs of a sample count and a host time, one a line, and nothing else.
use Rattle.std.specs.Prelude.{ℕ, List, [], ◌∷◌, All}
use Rattle.link_hostfilter.specs.declared.pair.Pair.{Pair}
use Rattle.link_lines.specs.Lines.{lines_of}
use Rattle.link_text.specs.PairLine.{IsPairLine}
use Rattle.link_commands.specs.BadLines.{IsFirstBad}

-- the line says this pair
abbrev pub SaysPair : List ℕ → Pair → Type 0
SaysPair line pair = IsPairLine line pair.sample pair.host

-- the line says some pair
abbrev pub IsSomePair : List ℕ → Type 0
IsSomePair line = (pair : Pair) × SaysPair line pair

-- the line says none
abbrev pub IsNoPair : List ℕ → Type 0
IsNoPair line = IsSomePair line → ⊥

-- Rule: A text for `filter` is lines of a sample count and a host time and nothing else.
-- a text whose lines all say pairs
abbrev pub IsPairText : List ℕ → Type 0
IsPairText text = All IsSomePair (lines_of text)

-- the first line that says none, counted from 1
abbrev pub IsFirstNoPair : List ℕ → ℕ → Type 0
IsFirstNoPair text k = IsFirstBad IsSomePair IsNoPair text k

-- each line says its pair
abbrev pub SayPairs : List (List ℕ) → List Pair → Type 0
SayPairs [] [] = Unit {0}
SayPairs (line ∷ lines) (pair ∷ pairs) = SaysPair line pair × SayPairs lines pairs
SayPairs [] (pair ∷ pairs) = ⊥
SayPairs (line ∷ lines) [] = ⊥
