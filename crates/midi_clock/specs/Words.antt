-- Words that ask for a MIDI clock: how many seconds, a tempo, the own endpoint and those of peers, and two options among them.
use Rattle.std.specs.Prelude.{◌≡◌, ◌⊎◌, ◌≤◌, ◌<◌, ◌+◌, ◌^◌, ℕ, Bool, ◌||◌, if◌then◌else◌, List, [], ◌∷◌, length, map, All, Some, codes, slice_get}
use Rattle.std.specs.Str.{bytes_eq}
use Rattle.std.specs.Str.Parse.{IsNumeral, digits_value, without_leading_plus}
use Rattle.lk_base.specs.Endpoint.{IsEndpoint}
use Rattle.lk_base.specs.declared.endpoint.Endpoint.{Endpoint}
use Rattle.link_lines.specs.Words.{endpoint_text_of}
use Rattle.midi_clock.specs.declared.words.WordsFault.{WordsFault}
use Rattle.midi_clock.specs.declared.words.WordsFault.TheVariants as fault

-- ---- options and places

unfoldable pub is_option : List ℕ → Bool
is_option word = bytes_eq word (codes "--quantum") || bytes_eq word (codes "--group")

-- Rule: The value of an option is the word behind its name; a name that comes last has an empty one.
-- the words that are neither the name of an option nor its value, in order
unfoldable pub places_of : List (List ℕ) → List (List ℕ)
places_of [] = []
places_of (word ∷ []) = if is_option word then [] else word ∷ []
places_of (word ∷ next ∷ words) = if is_option word then places_of words else word ∷ places_of (next ∷ words)

-- the values that are given to the option of a name, in order
unfoldable pub values_of : List ℕ → List (List ℕ) → List (List ℕ)
values_of name [] = []
values_of name (word ∷ []) = if bytes_eq word name then [] ∷ [] else []
values_of name (word ∷ next ∷ words) =
    if is_option word
    then (if bytes_eq word name then next ∷ values_of name words else values_of name words)
    else values_of name (next ∷ words)

-- ---- what they say

-- decimal digits of a number in this range, before which a plus may stand
pub record SaysNumber (bytes : List ℕ) (least most n : ℕ) : Type 0 where
  pub numeral : IsNumeral 10 (without_leading_plus bytes)
  pub value : n ≡ digits_value 10 (without_leading_plus bytes)
  pub from : least ≤ n
  pub to : n ≤ most

-- the option of a name isn't given, and the number is its default; or it is given once, and says the number, from 0 to the most
abbrev pub SaysOption : List (List ℕ) → List ℕ → (most default n : ℕ) → Type 0
SaysOption words name most default n =
    ((values_of name words ≡ []) × (n ≡ default))
    ⊎ ((text : List ℕ) × (values_of name words ≡ text ∷ []) × SaysNumber text 0 most n)

abbrev pub SaysSeconds : List ℕ → ℕ → Type 0
SaysSeconds text n = SaysNumber text 1 86_400 n

abbrev pub SaysTempo : List ℕ → ℕ → Type 0
SaysTempo text n = SaysNumber text 60_060 3_000_000 n

abbrev pub SaysQuantum : List (List ℕ) → ℕ → Type 0
SaysQuantum words n = SaysOption words (codes "--quantum") (2 ^ 40) 4_000_000 n

abbrev pub SaysGroup : List (List ℕ) → ℕ → Type 0
SaysGroup words n = SaysOption words (codes "--group") 65_535 0 n

-- Rule: The MIDI clock takes seconds from 1 to 86,400, a tempo, its own endpoint, up to 32 of peers, `--quantum` and `--group` once each.
pub record AsksFor (words : List (List ℕ)) (seconds mpb quantum group : ℕ) (local : Endpoint) (peers : List Endpoint) : Type 0 where
  pub first : List ℕ
  pub second : List ℕ
  pub places : places_of words ≡ first ∷ second ∷ endpoint_text_of local ∷ map endpoint_text_of peers
  pub seconds_said : SaysSeconds first seconds
  pub tempo_said : SaysTempo second mpb
  pub endpoint : IsEndpoint local
  pub endpoints : All IsEndpoint peers
  pub room : length peers ≤ 32
  pub quantum_said : SaysQuantum words quantum
  pub group_said : SaysGroup words group

-- ---- what is wrong with them

-- no word stands in this place
abbrev pub IsMissing : List (List ℕ) → ℕ → Type 0
IsMissing words place = length (places_of words) ≤ place

-- the word in this place is no endpoint's
abbrev pub IsNoEndpoint : List (List ℕ) → ℕ → Type 0
IsNoEndpoint words place =
    (text : List ℕ) × (slice_get (places_of words) place ≡ Some text)
    × ((e : Endpoint) → IsEndpoint e → text ≡ endpoint_text_of e → ⊥)

-- Rule: Of words that ask for no MIDI clock one is told that is missing, or that is wrong, or that they are too many.
-- what each fault says of words, so that they ask for nothing
abbrev pub IsFaultIn : List (List ℕ) → WordsFault → Type 0
IsFaultIn words fault.NoSeconds = IsMissing words 0
IsFaultIn words fault.Seconds = (text : List ℕ) × (slice_get (places_of words) 0 ≡ Some text) × ((n : ℕ) → SaysSeconds text n → ⊥)
IsFaultIn words fault.NoTempo = IsMissing words 1
IsFaultIn words fault.Tempo = (text : List ℕ) × (slice_get (places_of words) 1 ≡ Some text) × ((n : ℕ) → SaysTempo text n → ⊥)
IsFaultIn words fault.NoLocal = IsMissing words 2
IsFaultIn words fault.Local = IsNoEndpoint words 2
IsFaultIn words (fault.Peer number) = IsNoEndpoint words (3 + number)
IsFaultIn words fault.Peers = 35 < length (places_of words)
IsFaultIn words fault.Quantum = (n : ℕ) → SaysQuantum words n → ⊥
IsFaultIn words fault.Group = (n : ℕ) → SaysGroup words n → ⊥
