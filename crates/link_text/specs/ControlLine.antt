-- The lines that a client sends to a node under control, and what each asks for.
use Rattle.std.specs.Prelude.{◌≡◌, ◌≤◌, ℕ, List, [], ◌∷◌, length, codes, Option, Some, None}
use Rattle.std.specs.Fmt.{signed_decimal}
use Rattle.lk_base.specs.Ranges.{IsWithinLimit}
use Rattle.link_script.specs.LiveScript.{IsTempo}
use Rattle.link_lines.specs.Words.{joined}
use Rattle.link_text.specs.declared.control_line.ControlLine.{ControlLine}
use Rattle.link_text.specs.declared.control_line.ControlLine.TheVariants.{Status, Tempo, Play, Stop, Beat, Time}

-- Rule: A control line is `status`, `tempo N`, `play`, `stop`, `beat TIME` or `time BEAT`.
abbrev pub control_words : ControlLine → List (List ℕ)
control_words Status = codes "status" ∷ []
control_words (Tempo mpb) = codes "tempo" ∷ signed_decimal mpb ∷ []
control_words Play = codes "play" ∷ []
control_words Stop = codes "stop" ∷ []
control_words (Beat time) = codes "beat" ∷ signed_decimal time ∷ []
control_words (Time beat) = codes "time" ∷ signed_decimal beat ∷ []

-- Rule: The tempo in a control line is from 60,060 to 3,000,000 microseconds per beat, and times and beats are within 2^60 of 0.
abbrev pub IsControlLine : ControlLine → Type 0
IsControlLine Status = Unit {0}
IsControlLine (Tempo mpb) = IsTempo mpb
IsControlLine Play = Unit {0}
IsControlLine Stop = Unit {0}
IsControlLine (Beat time) = IsWithinLimit time
IsControlLine (Time beat) = IsWithinLimit beat

-- the line, without its line feed, asks for this
pub record Asks (line : List ℕ) (asked : ControlLine) : Type 0 where
  pub range : IsControlLine asked
  pub said : line ≡ joined (control_words asked)

-- the line asks for this, or for nothing that there is
abbrev pub IsAsked : List ℕ → Option ControlLine → Type 0
IsAsked line None = (asked : ControlLine) → Asks line asked → ⊥
IsAsked line (Some asked) = Asks line asked

-- Rule: A control line asks for one thing at most, and a line of more than 25 bytes, as one of 65 bytes, for nothing that there is.
-- a line asks for one thing at most, and a long one for none
pub record AreControlLines : Type 0 where
  pub one : (line : List ℕ) (asked other : ControlLine) → Asks line asked → Asks line other → asked ≡ other
  pub short : (line : List ℕ) (asked : ControlLine) → Asks line asked → length line ≤ 25
