-- A tempo in beats per minute.
use Rattle.std.specs.Prelude.{◌≡◌, ◌⊎◌, ◌≤◌, ℕ, ℤ, pos, ◌+◌, ◌-◌, ◌*◌, ◌^◌, List, ◌∷◌, ◌++◌, length}
use Rattle.std.specs.Fmt.{decimal}
use Rattle.std.specs.Str.Parse.{IsNumeral, digits_value}
use Rattle.lk_base.specs.Rounding.{nearest_of}

-- so many millionths, written as a whole number, or as one with a point and up to six places
abbrev pub SaysMillionths : List ℕ → ℕ → Type 0
SaysMillionths text n =
    ((whole : ℕ) × (text ≡ decimal whole) × (n ≡ whole * 1_000_000))
    ⊎ ((whole : ℕ) × (places : List ℕ) × (text ≡ decimal whole ++ 46 ∷ places) × IsNumeral 10 places × (length places ≤ 6)
    × (n ≡ whole * 1_000_000 + digits_value 10 places * 10 ^ (6 - length places)))

-- Rule: A tempo of so many beats per minute has the nearest whole number of microseconds per beat.
pub record IsBeatsPerMinute (text : List ℕ) (mpb : ℤ) : Type 0 where
  pub millionths : ℕ
  pub said : SaysMillionths text millionths
  pub mpb_is : mpb ≡ nearest_of (pos 60_000_000_000_000) (pos millionths)
