-- Words that ask for a session server: the endpoint of its clients, and options and flags in any order.
use Rattle.std.specs.Prelude.{◌≡◌, ◌⊎◌, ◌≤◌, ◌<◌, ◌*◌, ◌^◌, ℕ, ℤ, pos, Bool, true, false, ◌||◌, if◌then◌else◌, List, [], ◌∷◌, ◌+◌, length, map, take, drop, filter, count_by, All, Option, Some, None, codes, slice_get, unsigned_abs}
use Rattle.std.specs.List.{flat_map}
use Rattle.std.specs.Str.{bytes_eq}
use Rattle.std.specs.Str.Parse.{IsNumeral, digits_value, without_leading_plus}
use Rattle.lk_base.specs.Endpoint.{IsEndpoint}
use Rattle.lk_base.specs.declared.endpoint.Endpoint.{Endpoint}
use Rattle.link_asks.specs.TempoText.{IsBeatsPerMinute, SaysMillionths}
use Rattle.link_lines.specs.Words.{endpoint_text_of}
use Rattle.link_node.specs.Config.{GateValue, gate_value}
use Rattle.link_script.specs.LiveScript.{IsTempo}
use Rattle.session_server.specs.declared.fault.WordsFault.{WordsFault}
use Rattle.session_server.specs.declared.fault.WordsFault.TheVariants as fault
use Rattle.session_server.specs.declared.setup.Setup.{Setup}

-- ---- parts

unfoldable pub takes_value : List ℕ → Bool
takes_value word =
    bytes_eq word (codes "--gate") || bytes_eq word (codes "--to") || bytes_eq word (codes "--script")
    || bytes_eq word (codes "--mpb") || bytes_eq word (codes "--bpm") || bytes_eq word (codes "--quantum")
    || bytes_eq word (codes "--group") || bytes_eq word (codes "--events") || bytes_eq word (codes "--hours")
    || bytes_eq word (codes "--secret")

unfoldable pub is_flag : List ℕ → Bool
is_flag word =
    bytes_eq word (codes "--sync") || bytes_eq word (codes "--end-allowed") || bytes_eq word (codes "--until-input-ends")

-- the name of an option or a flag, and its value; a word that is neither is the value of an empty name
pub record PartValue : Type 0 where
  pub name : List ℕ
  pub text : List ℕ

abbrev pub part : List ℕ → List ℕ → PartValue
part name text = record { name = name; text = text }

unfoldable pub part_of : List ℕ → List ℕ → PartValue
part_of word next = if takes_value word then part word next else (if is_flag word then part word [] else part [] word)

-- Rule: The value of an option of a session server is the word behind its name; a name that comes last has an empty one.
unfoldable pub parts_of : List (List ℕ) → List PartValue
parts_of [] = []
parts_of (word ∷ []) = part_of word [] ∷ []
parts_of (word ∷ next ∷ words) = part_of word next ∷ (if takes_value word then parts_of words else parts_of (next ∷ words))

-- whether a part has one of these names
abbrev pub is_named : (first second : List ℕ) → PartValue → Bool
is_named first second part = bytes_eq part.name first || bytes_eq part.name second

-- the parts that have one of these names, in order
unfoldable pub named_in : (first second : List ℕ) → List (List ℕ) → List PartValue
named_in first second words = filter (is_named first second) (parts_of words)

abbrev pub parts_with : List ℕ → List (List ℕ) → List PartValue
parts_with name words = named_in name name words

-- ---- what they say

-- the words that are neither an option or a flag nor a value
abbrev pub places_of : List (List ℕ) → List PartValue
places_of words = parts_with [] words

-- one word stands alone, an endpoint
abbrev pub SaysEndpoint : List (List ℕ) → Endpoint → Type 0
SaysEndpoint words at = (given : PartValue) × (places_of words ≡ given ∷ []) × (given.text ≡ endpoint_text_of at)

-- decimal digits of a number in this range, before which a plus may stand
pub record SaysNumber (bytes : List ℕ) (least most n : ℕ) : Type 0 where
  pub numeral : IsNumeral 10 (without_leading_plus bytes)
  pub value : n ≡ digits_value 10 (without_leading_plus bytes)
  pub from : least ≤ n
  pub to : n ≤ most

-- the option of a name isn't given, and the number is its default; or it is given once, and says the number, from the least to the most
abbrev pub SaysOption : List (List ℕ) → List ℕ → (least most default n : ℕ) → Type 0
SaysOption words name least most default n =
    ((parts_with name words ≡ []) × (n ≡ default))
    ⊎ ((given : PartValue) × (parts_with name words ≡ given ∷ []) × SaysNumber given.text least most n)

abbrev pub SaysQuantum : List (List ℕ) → ℕ → Type 0
SaysQuantum words n = SaysOption words (codes "--quantum") 0 (2 ^ 40) 4_000_000 n

abbrev pub SaysGroup : List (List ℕ) → ℕ → Type 0
SaysGroup words n = SaysOption words (codes "--group") 0 65_535 0 n

abbrev pub SaysEvents : List (List ℕ) → ℕ → Type 0
SaysEvents words n = SaysOption words (codes "--events") 1 524_288 524_288 n

-- the flag of a name isn't given, or it is given once
abbrev pub SaysFlag : List (List ℕ) → List ℕ → Bool → Type 0
SaysFlag words name false = parts_with name words ≡ []
SaysFlag words name true = (given : PartValue) × (parts_with name words ≡ given ∷ [])

-- the option of a name isn't given, or it is given once, and names a file
abbrev pub SaysFile : List (List ℕ) → List ℕ → Bool → Type 0
SaysFile words name false = parts_with name words ≡ []
SaysFile words name true = (given : PartValue) × (parts_with name words ≡ given ∷ []) × (1 ≤ length given.text)

-- a tempo in microseconds per beat, or in beats per minute
abbrev pub SaysTempoBy : Bool → List ℕ → ℤ → Type 0
SaysTempoBy true text mpb = (n : ℕ) × SaysNumber text 60_060 3_000_000 n × (mpb ≡ pos n)
SaysTempoBy false text mpb = IsTempo mpb × IsBeatsPerMinute text mpb

abbrev pub tempo_parts_of : List (List ℕ) → List PartValue
tempo_parts_of words = named_in (codes "--mpb") (codes "--bpm") words

-- Rule: A session server begins with 120 beats a minute, or with the one tempo given.
abbrev pub SaysTempo : List (List ℕ) → ℤ → Type 0
SaysTempo words mpb =
    ((tempo_parts_of words ≡ []) × (mpb ≡ pos 500_000))
    ⊎ ((given : PartValue) × (tempo_parts_of words ≡ given ∷ []) × SaysTempoBy (bytes_eq given.name (codes "--mpb")) given.text mpb)

-- how long it serves, in microseconds: without end, or so many millionths of an hour
abbrev pub SaysHours : List (List ℕ) → Option ℤ → Type 0
SaysHours words None = parts_with (codes "--hours") words ≡ []
SaysHours words (Some lasts) =
    (given : PartValue) × (n : ℕ) × (parts_with (codes "--hours") words ≡ given ∷ []) × SaysMillionths given.text n
    × (1 ≤ n) × (n ≤ 8_760_000_000) × (lasts ≡ pos (n * 3_600))

-- ---- gates

-- the gates and their destinations, in order
abbrev pub gate_parts_of : List (List ℕ) → List PartValue
gate_parts_of words = named_in (codes "--gate") (codes "--to") words

abbrev pub to_part_of : Endpoint → PartValue
to_part_of to = part (codes "--to") (endpoint_text_of to)

unfoldable pub spelled_gate : GateValue → List PartValue
spelled_gate gate = part (codes "--gate") (endpoint_text_of gate.local) ∷ map to_part_of gate.destinations

-- the address of this machine that others don't reach, and any port
abbrev pub own_gate : GateValue
own_gate = record { local = record { addr = 2_130_706_433; port = 0 }; destinations = [] }

-- Rule: A destination of a session server belongs to the gate before it; without gates it has one on 127.0.0.1, and no destination.
abbrev pub SaysGates : List (List ℕ) → List GateValue → Type 0
SaysGates words gates =
    ((gate_parts_of words ≡ []) × (gates ≡ own_gate ∷ []))
    ⊎ ((first : GateValue) × (more : List GateValue) × (gates ≡ first ∷ more) × (gate_parts_of words ≡ flat_map spelled_gate gates))

-- ---- the whole

-- neither gates nor a tempo nor sync are given
pub record SaysNoHead (words : List (List ℕ)) : Type 0 where
  pub no_gates : gate_parts_of words ≡ []
  pub no_tempo : tempo_parts_of words ≡ []
  pub no_sync : parts_with (codes "--sync") words ≡ []

-- Rule: A session server takes an endpoint for its clients, and its options and flags once each, but for `--gate` and `--to`; a script
-- stands for gates, tempo and sync.
pub record AsksFor (words : List (List ℕ)) (setup : Setup) : Type 0 where
  pub endpoint : IsEndpoint setup.at
  pub endpoint_said : SaysEndpoint words setup.at
  pub script : Bool
  pub script_said : SaysFile words (codes "--script") script
  pub alone : script ≡ true → SaysNoHead words
  pub gates_said : SaysGates words (map gate_value setup.opening.gates.items)
  pub tempo_said : SaysTempo words setup.opening.mpb
  pub sync_said : SaysFlag words (codes "--sync") setup.opening.sync
  pub quantum_said : SaysQuantum words (unsigned_abs setup.quantum)
  pub group_said : SaysGroup words setup.group
  pub events_said : SaysEvents words setup.events
  pub hours_said : SaysHours words setup.lasts
  pub secret : Bool
  pub secret_said : SaysFile words (codes "--secret") secret
  pub end_said : SaysFlag words (codes "--end-allowed") setup.may_end
  pub input_said : SaysFlag words (codes "--until-input-ends") setup.until_input_ends

-- ---- what is wrong with them

-- how many gates are given
abbrev pub gates_in : List PartValue → ℕ
gates_in parts = count_by (λ part. bytes_eq part.name (codes "--gate")) parts

-- a text is no endpoint's
abbrev pub IsNoEndpoint : List ℕ → Type 0
IsNoEndpoint text = (e : Endpoint) → IsEndpoint e → text ≡ endpoint_text_of e → ⊥

-- Rule: Of words that ask for no session server one is told that is missing, wrong or too much.
-- what each fault says of words, so that they ask for nothing
abbrev pub IsFaultIn : List (List ℕ) → WordsFault → Type 0
IsFaultIn words fault.NoEndpoint = places_of words ≡ []
IsFaultIn words fault.Endpoint = (given : PartValue) × (places_of words ≡ given ∷ []) × IsNoEndpoint given.text
IsFaultIn words fault.TooMuch = 1 < length (places_of words)
IsFaultIn words fault.Script = (script : Bool) → SaysFile words (codes "--script") script → ⊥
IsFaultIn words fault.Beside = (0 < length (parts_with (codes "--script") words)) × (SaysNoHead words → ⊥)
IsFaultIn words (fault.Gate number) =
    (given : PartValue) × (slice_get (gate_parts_of words) number ≡ Some given) × IsNoEndpoint given.text
IsFaultIn words fault.StrayTo =
    (given : PartValue) × (slice_get (gate_parts_of words) 0 ≡ Some given) × (bytes_eq given.name (codes "--gate") ≡ false)
IsFaultIn words fault.Gates = 4 < gates_in (gate_parts_of words)
IsFaultIn words fault.Destinations =
    (number : ℕ) × (number + 33 ≤ length (gate_parts_of words))
    × All (λ given. bytes_eq given.name (codes "--gate") ≡ false) (take 33 (drop number (gate_parts_of words)))
IsFaultIn words fault.Tempo = (mpb : ℤ) → SaysTempo words mpb → ⊥
IsFaultIn words fault.Sync = (sync : Bool) → SaysFlag words (codes "--sync") sync → ⊥
IsFaultIn words fault.Quantum = (n : ℕ) → SaysQuantum words n → ⊥
IsFaultIn words fault.Group = (n : ℕ) → SaysGroup words n → ⊥
IsFaultIn words fault.Events = (n : ℕ) → SaysEvents words n → ⊥
IsFaultIn words fault.Hours = (lasts : Option ℤ) → SaysHours words lasts → ⊥
IsFaultIn words fault.Secret = (secret : Bool) → SaysFile words (codes "--secret") secret → ⊥
IsFaultIn words fault.EndAllowed = (allowed : Bool) → SaysFlag words (codes "--end-allowed") allowed → ⊥
IsFaultIn words fault.UntilInputEnds = (until : Bool) → SaysFlag words (codes "--until-input-ends") until → ⊥
