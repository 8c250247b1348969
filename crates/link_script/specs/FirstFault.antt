-- The first line at fault of a text of any kind, where `IsText` says which lines make a text of that kind.
use Rattle.std.specs.Prelude.{◌≡◌, ◌<◌, ◌^◌, ◌⊎◌, ◌+◌, ℕ, List, [], ◌∷◌, ◌++◌, length}
use Rattle.link_lines.specs.Lines.{lines_of}

-- some text begins with these lines
pub record Begins (IsText : List (List ℕ) → Type 0) (lines : List (List ℕ)) : Type 0 where
  pub rest : List (List ℕ)
  pub text : IsText (lines ++ rest)

-- the lines before begin a text, and with this line they begin none
pub record IsFaultAt (IsText : List (List ℕ) → Type 0) (lines : List (List ℕ)) (k : ℕ) : Type 0 where
  pub before : List (List ℕ)
  pub line : List ℕ
  pub after : List (List ℕ)
  pub split : lines ≡ before ++ line ∷ after
  pub number : k ≡ length before + 1
  pub begins : Begins IsText before
  pub fault : Begins IsText (before ++ line ∷ []) → ⊥

-- Rule: Where a line is missing at the end of a text, the line at fault is the one after the last.
-- the lines begin a text, and a line that it needs is absent
pub record IsCutShort (IsText : List (List ℕ) → Type 0) (lines : List (List ℕ)) (k : ℕ) : Type 0 where
  pub number : k ≡ length lines + 1
  pub begins : Begins IsText lines
  pub fault : IsText lines → ⊥

-- Rule: The first line at fault is the first with which the lines so far begin no script any more.
-- the first line at fault, counted from 1, those passed over among them
abbrev pub IsFirstFault : (List (List ℕ) → Type 0) → List ℕ → ℕ → Type 0
IsFirstFault IsText text k = IsFaultAt IsText (lines_of text) k ⊎ IsCutShort IsText (lines_of text) k

-- the text is none of that kind
abbrev pub IsNone : (List (List ℕ) → Type 0) → List ℕ → Type 0
IsNone IsText text = IsText (lines_of text) → ⊥

pub record IsLineFault (IsText : List (List ℕ) → Type 0) (text : List ℕ) (k : ℕ) : Type 0 where
  pub first : IsFirstFault IsText text k
  pub none : IsNone IsText text
  pub counted : k < 2 ^ 32
