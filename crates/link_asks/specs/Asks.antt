-- The lines that a client sends to a session server, and what each asks for.
use Rattle.std.specs.Prelude.{◌≡◌, ◌⊎◌, ◌≤◌, ℕ, ℤ, List, [], ◌∷◌, length, codes, Option, Some, None, IfSome}
use Rattle.std.specs.Fmt.{signed_decimal}
use Rattle.std.specs.Str.Lines.{strip_carriage_return}
use Rattle.lk_base.specs.Ranges.{IsQuantum, IsWithinLimit}
use Rattle.link_script.specs.LiveScript.{IsTempo}
use Rattle.link_lines.specs.LineWords.{words_of}
use Rattle.link_asks.specs.TempoText.{IsBeatsPerMinute}
use Rattle.link_asks.specs.declared.ask.Ask.{Ask}
use Rattle.link_asks.specs.declared.ask.Ask.TheVariants.{Status, Now, Beat, Phase, Time, Tempo, Play, Stop, Force, Request, Quantum, Watch, Unwatch, Clients, Gates, End}

-- Rule: A tempo is from 60,060 to 3,000,000 microseconds per beat, a quantum from 0 to 2^40, and times and beats are within 2^60 of 0.
abbrev pub IsAsk : Ask → Type 0
IsAsk Status = Unit {0}
IsAsk Now = Unit {0}
IsAsk (Beat time) = IsWithinLimit time
IsAsk (Phase time) = IsWithinLimit time
IsAsk (Time beat) = IsWithinLimit beat
IsAsk (Tempo mpb) = IsTempo mpb
IsAsk (Play at) = IfSome at IsWithinLimit
IsAsk (Stop at) = IfSome at IsWithinLimit
IsAsk (Force beat at) = IsWithinLimit beat × IsWithinLimit at
IsAsk (Request beat at) = IsWithinLimit beat × IsWithinLimit at
IsAsk (Quantum quantum) = IsQuantum quantum
IsAsk Watch = Unit {0}
IsAsk Unwatch = Unit {0}
IsAsk Clients = Unit {0}
IsAsk Gates = Unit {0}
IsAsk End = Unit {0}

-- a time of the node's clock, or none
abbrev pub time_words : Option ℤ → List (List ℕ)
time_words None = []
time_words (Some at) = signed_decimal at ∷ []

-- Rule: A line of a client has the words `status`, `now`, `beat TIME`, `phase TIME`, `time BEAT`, `tempo MPB`, `bpm X`, `play`, `play
-- TIME`, `stop`, `stop TIME`, `force BEAT TIME`, `request BEAT TIME`, `quantum N`, `watch`, `unwatch`, `clients`, `gates` or `end`.
abbrev pub Says : List (List ℕ) → Ask → Type 0
Says words Status = words ≡ codes "status" ∷ []
Says words Now = words ≡ codes "now" ∷ []
Says words (Beat time) = words ≡ codes "beat" ∷ signed_decimal time ∷ []
Says words (Phase time) = words ≡ codes "phase" ∷ signed_decimal time ∷ []
Says words (Time beat) = words ≡ codes "time" ∷ signed_decimal beat ∷ []
Says words (Tempo mpb) =
    (words ≡ codes "tempo" ∷ signed_decimal mpb ∷ [])
    ⊎ ((text : List ℕ) × (words ≡ codes "bpm" ∷ text ∷ []) × IsBeatsPerMinute text mpb)
Says words (Play at) = words ≡ codes "play" ∷ time_words at
Says words (Stop at) = words ≡ codes "stop" ∷ time_words at
Says words (Force beat at) = words ≡ codes "force" ∷ signed_decimal beat ∷ signed_decimal at ∷ []
Says words (Request beat at) = words ≡ codes "request" ∷ signed_decimal beat ∷ signed_decimal at ∷ []
Says words (Quantum quantum) = words ≡ codes "quantum" ∷ signed_decimal quantum ∷ []
Says words Watch = words ≡ codes "watch" ∷ []
Says words Unwatch = words ≡ codes "unwatch" ∷ []
Says words Clients = words ≡ codes "clients" ∷ []
Says words Gates = words ≡ codes "gates" ∷ []
Says words End = words ≡ codes "end" ∷ []

-- Rule: A line of a client ends with a line feed, or with a carriage return and a line feed.
-- the line, without its line feed, asks for this
pub record Asks (line : List ℕ) (ask : Ask) : Type 0 where
  pub range : IsAsk ask
  pub said : Says (words_of (strip_carriage_return line)) ask

-- the line asks for this, or for nothing that there is
abbrev pub IsAsked : List ℕ → Option Ask → Type 0
IsAsked line None = (ask : Ask) → Asks line ask → ⊥
IsAsked line (Some ask) = Asks line ask

-- Rule: A line asks for one thing at most, and a line of more than 128 bytes for nothing.
pub record AreAsks : Type 0 where
  pub one : (line : List ℕ) (ask other : Ask) → Asks line ask → Asks line other → ask ≡ other
  pub short : (line : List ℕ) (ask : Ask) → Asks line ask → length line ≤ 128
