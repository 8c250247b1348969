-- A client's first line, where a word is asked for.
use Rattle.std.specs.Prelude.{◌≡◌, ◌≤◌, ◌<◌, ◌==◌, ◌+◌, ℕ, List, ◌++◌, codes, take, length, position, Option, None, Some}
use Rattle.std.specs.Str.Lines.{strip_carriage_return}
use Rattle.serve_adapters.specs.declared.greeting.Greeting.{Greeting}
use Rattle.serve_adapters.specs.declared.greeting.Greeting.TheVariants as greeting

-- Rule: A client may enter whose first line is `hello` and the word that is asked for, in at most 128 bytes.
pub record IsHello (line word : List ℕ) : Type 0 where
  pub said : strip_carriage_return line ≡ codes "hello " ++ word
  pub few : length (strip_carriage_return line) ≤ 128

-- where the first line ends, if its end is there
abbrev pub end_of : List ℕ → Option ℕ
end_of bytes = position (λ byte. byte == 10) bytes

-- a line whose end isn't there is waited for while it may yet be short enough
abbrev pub IsGreeting : List ℕ → List ℕ → Greeting → Type 0
IsGreeting bytes word greeting.Waits = (end_of bytes ≡ None) × (length bytes < 130)
IsGreeting bytes word (greeting.Right n) = (end : ℕ) × (end_of bytes ≡ Some end) × (n ≡ end + 1) × (n ≤ length bytes) × IsHello (take end bytes) word
IsGreeting bytes word greeting.Wrong =
    ((end : ℕ) → end_of bytes ≡ Some end → ¬ IsHello (take end bytes) word) × (end_of bytes ≡ None → 130 ≤ length bytes)

-- Rule: A client that a secret is asked of is let in only where its first line has the word.
-- these first bytes have a line that does
pub record Greets (bytes word : List ℕ) : Type 0 where
  pub count : ℕ
  pub right : IsGreeting bytes word (greeting.Right count)
