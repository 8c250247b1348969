-- The word that clients greet with.
use Rattle.std.specs.Prelude.{◌==◌, ℕ, List}
use Rattle.std.specs.List.{before_first}
use Rattle.std.specs.Str.Lines.{strip_carriage_return}

-- Rule: The secret is the first line of its file, which has 1 to 100 bytes and ends with LF, with CR LF, or with the file.
abbrev pub first_line_of : List ℕ → List ℕ
first_line_of text = strip_carriage_return (before_first (λ byte. byte == 10) text)
