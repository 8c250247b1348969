-- The lines of the bytes that a client sends.
use Rattle.std.specs.Prelude.{ℕ, ◌==◌, if◌then◌else◌, List, [], ◌∷◌}

-- a byte before what is whole goes to its first line; a rest that has no line feed is none
abbrev pub onto_whole : ℕ → List (List ℕ) → List (List ℕ)
onto_whole b [] = []
onto_whole b (line ∷ lines) = (b ∷ line) ∷ lines

-- Rule: A control line ends with a line feed; what stands behind the last line feed isn't answered.
unfoldable pub whole_lines_of : List ℕ → List (List ℕ)
whole_lines_of [] = []
whole_lines_of (b ∷ bs) = if b == 10 then [] ∷ whole_lines_of bs else onto_whole b (whole_lines_of bs)
