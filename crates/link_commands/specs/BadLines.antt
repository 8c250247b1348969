-- The first line at fault of a text in which each line is good or bad by itself.
use Rattle.std.specs.Prelude.{◌≡◌, ◌+◌, ℕ, List, ◌∷◌, ◌++◌, length, All}
use Rattle.link_lines.specs.Lines.{lines_of}

-- the first bad line, counted from 1
pub record IsFirstBad (IsGood IsBad : List ℕ → Type 0) (text : List ℕ) (k : ℕ) : Type 0 where
  pub before : List (List ℕ)
  pub line : List ℕ
  pub after : List (List ℕ)
  pub split : lines_of text ≡ before ++ line ∷ after
  pub number : k ≡ length before + 1
  pub good : All IsGood before
  pub bad : IsBad line
