-- The commands, each by its word, which is the first of the words after the program's name.
use Rattle.std.specs.Prelude.{◌≡◌, ℕ, if◌then◌else◌, List, [], ◌∷◌, Option, Some, None, codes, map}
use Rattle.std.specs.Str.{bytes_eq}
use Rattle.std.specs.String.{string_bytes}
use Rattle.std.specs.declared.alloc.Global.{Global}
use Rattle.std.specs.declared.string.String.{String}
use Rattle.link_words.specs.declared.command_name.CommandName.{CommandName}
use Rattle.link_words.specs.declared.command_name.CommandName.TheVariants as name

-- the word of a command
abbrev pub word_of : CommandName → List ℕ
word_of name.Replay = codes "replay"
word_of name.Decode = codes "decode"
word_of name.Load = codes "load"
word_of name.Live = codes "live"
word_of name.Filter = codes "filter"
word_of name.Midi = codes "midi"
word_of name.Control = codes "control"

-- the command of a word, if it is one
unfoldable pub command_of : List ℕ → Option CommandName
command_of word =
    if bytes_eq word (word_of name.Replay) then Some name.Replay
    else if bytes_eq word (word_of name.Decode) then Some name.Decode
    else if bytes_eq word (word_of name.Load) then Some name.Load
    else if bytes_eq word (word_of name.Live) then Some name.Live
    else if bytes_eq word (word_of name.Filter) then Some name.Filter
    else if bytes_eq word (word_of name.Midi) then Some name.Midi
    else if bytes_eq word (word_of name.Control) then Some name.Control
    else None

-- Rule: The first word names one of the commands `replay`, `decode`, `load`, `live`, `filter`, `midi` and `control`.
unfoldable pub named_by : List (String Global) → Option CommandName
named_by [] = None
named_by (first ∷ rest) = command_of (string_bytes first)

-- Rule: `replay`, `decode` and `filter` take no further words.
abbrev pub Names : CommandName → List (String Global) → Type 0
Names named words = map string_bytes words ≡ word_of named ∷ []

-- the first of the words is the command's
abbrev pub BeginsBy : CommandName → List (String Global) → Type 0
BeginsBy named words = (rest : List (List ℕ)) × (map string_bytes words ≡ word_of named ∷ rest)
