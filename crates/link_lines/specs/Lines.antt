-- The lines of a text, and those of them that count.
use Rattle.std.specs.Prelude.{ℕ, ◌==◌, not, Bool, true, if◌then◌else◌, List, [], ◌∷◌, filter}
use Rattle.std.specs.List.{onto_first}

-- Rule: A text is lines ended by a line feed, which the last line may lack; a carriage return is part of its line.
unfoldable pub lines_of : List ℕ → List (List ℕ)
lines_of [] = []
lines_of (b ∷ bs) = if b == 10 then [] ∷ lines_of bs else onto_first b (lines_of bs)

-- Rule: An empty line and a line that begins with `#`, a comment, are passed over; they count for line numbers.
abbrev pub is_passed : List ℕ → Bool
is_passed [] = true
is_passed (b ∷ bs) = b == 35

abbrev pub counting_in : List (List ℕ) → List (List ℕ)
counting_in lines = filter (λ line. not (is_passed line)) lines
