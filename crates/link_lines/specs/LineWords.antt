-- Only for proofs: the words of a line, which are parted by single spaces.
use Rattle.std.specs.Prelude.{◌≡◌, ℕ, ◌==◌, if◌then◌else◌, List, [], ◌∷◌, Option, IfSome, IfNone}
use Rattle.std.specs.List.{onto_first}
use Rattle.std.specs.Borrow.{Bor}

-- Rule: The words of a line are parted by exactly one space, with none at either end.
unfoldable pub words_of : List ℕ → List (List ℕ)
words_of [] = [] ∷ []
words_of (b ∷ bs) = if b == 32 then [] ∷ words_of bs else onto_first b (words_of bs)

-- what is left of a line behind a word is nothing, or a space and further words
abbrev pub words_left : List ℕ → List (List ℕ)
words_left [] = []
words_left (b ∷ bs) = words_of bs

-- the first of the words that are left is the word for a value in range, and so much is left behind it; or it is no such word
pub record ReadsWord {A : Type 0} (IsInRange : A → Type 0) (text : A → List ℕ) (left : List ℕ) (result : Option (A × Bor (List ℕ))) : Type 0 where
  pub some : IfSome result (λ found. IsInRange found.0 × (words_left left ≡ text found.0 ∷ words_left found.1.now))
  pub none : IfNone result ((x : A) (rest : List (List ℕ)) → IsInRange x → words_left left ≡ text x ∷ rest → ⊥)
