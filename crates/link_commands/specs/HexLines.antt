-- The grammar of datagrams in hex, one a line: an even number of hex digits of either case, and nothing else.
use Rattle.std.specs.Prelude.{◌≡◌, ◌<◌, ◌≤◌, ◌*◌, ◌%◌, ℕ, false, List, [], length, slice_index, All, Contains, Ok, ◌⊎◌}
use Rattle.hex.specs.Hex.{decode_of, is_hex_digit}
use Rattle.link_lines.specs.Lines.{lines_of}
use Rattle.link_commands.specs.BadLines.{IsFirstBad}

-- the line says some bytes
abbrev pub IsHexLine : List ℕ → Type 0
IsHexLine line = (bytes : List ℕ) × (decode_of line ≡ Ok bytes)

-- Rule: A text for `decode` is lines of an even number of hex digits and nothing else.
abbrev pub IsDecodable : List ℕ → Type 0
IsDecodable text = All IsHexLine (lines_of text)

-- an odd number of characters, or one that is no hex digit
abbrev pub IsBadLine : List ℕ → Type 0
IsBadLine line =
    (length line % 2 ≡ 1) ⊎ ((k : ℕ) × (k < length line) × (is_hex_digit (slice_index line k) ≡ false))

-- the first line outside the grammar, counted from 1
abbrev pub IsFirstBadLine : List ℕ → ℕ → Type 0
IsFirstBadLine text k = IsFirstBad IsHexLine IsBadLine text k

-- no line says more than so many bytes
abbrev pub HasLinesWithin : ℕ → List ℕ → Type 0
HasLinesWithin most text = All (λ line. length line ≤ 2 * most) (lines_of text)

-- one of the lines says so many bytes, or there is no line and it is 0
abbrev pub HasLineAmong : List (List ℕ) → ℕ → Type 0
HasLineAmong lines most =
    ((line : List ℕ) × Contains lines line × (length line ≡ 2 * most)) ⊎ ((lines ≡ []) × (most ≡ 0))

-- the longest line of the text says so many bytes
abbrev pub IsLongestLine : List ℕ → ℕ → Type 0
IsLongestLine text most = HasLinesWithin most text × HasLineAmong (lines_of text) most
