-- How the contents of an object change that may tell them.
use Rattle.std.specs.Prelude.{Option, Some, None}

-- both tell, and what they tell is related so, or neither tells
abbrev pub BothTell : {A : Type 0} → (A → A → Type 0) → Option A → Option A → Type 0
BothTell P None None = Unit {0}
BothTell P (Some before) (Some after) = P before after
BothTell P None (Some after) = ⊥
BothTell P (Some before) None = ⊥
