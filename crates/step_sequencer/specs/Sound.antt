-- The sound of three voices, frame by frame. The voices are this project's own: a square wave and two of noise, each of them fading.
use Rattle.std.specs.Prelude.{ℕ, zero, suc, ◌+◌, ◌-◌, ◌*◌, ◌/◌, ◌%◌, min, ℤ, pos, ◌+ℤ◌, neg_ℤ, Bool, false, if◌then◌else◌, ◌==◌, List, [], ◌∷◌, Option, Some, None}
use Rattle.client_state.specs.declared.state.State.{State}
use Rattle.step_sequencer.specs.Pattern.{strokes_at}
use Rattle.step_sequencer.specs.Steps.{step_in}
use Rattle.step_sequencer.specs.declared.pattern.Pattern.{Pattern}
use Rattle.step_sequencer.specs.declared.pattern.Strokes.{Strokes}

-- ---- ages

-- how many frames ago each voice was struck, at most 4,800, when all of them are silent
pub record Ages : Type 0 where
  pub kick : ℕ
  pub snare : ℕ
  pub hat : ℕ

-- all voices are silent
abbrev pub silent : Ages
silent = record { kick = 4_800; snare = 4_800; hat = 4_800 }

abbrev pub aged : ℕ → ℕ
aged n = min (n + 1) 4_800

-- a stroke begins its voice anew
unfoldable pub next_age : Bool → ℕ → ℕ
next_age struck n = if struck then 0 else aged n

unfoldable pub next_ages : Strokes → Ages → Ages
next_ages strokes ages =
    record { kick = next_age strokes.kick ages.kick; snare = next_age strokes.snare ages.snare; hat = next_age strokes.hat ages.hat }

-- what is struck in a frame in which a step begins, or none does
unfoldable pub strokes_in : Pattern → Option ℤ → Strokes
strokes_in pattern None = record { kick = false; snare = false; hat = false }
strokes_in pattern (Some step) = strokes_at pattern step

-- Rule: A voice that is struck begins anew in that frame, and the others sound on.
-- The ages after that frame.
abbrev pub ages_after : Pattern → Option ℤ → Ages → Ages
ages_after pattern step ages = next_ages (strokes_in pattern step) ages

-- ---- levels

abbrev pub signed : Bool → ℕ → ℤ
signed negative magnitude = if negative then neg_ℤ (pos magnitude) else pos magnitude

-- from 8,000 down to 0 after 4,800 frames, and below 0 in every other 300 of them
unfoldable pub kick_level : ℕ → ℤ
kick_level age = signed (age / 300 % 2 == 1) ((4_800 - age) * 5 / 3)

-- noise from 4,095 down to 0 after 3,600 frames (where the difference stays 0), and below 0 in every third
unfoldable pub snare_level : ℕ → ℤ
snare_level age = signed (age % 3 == 1) ((age * 7_919 + 4_095) % 4_096 * (3_600 - age) / 3_600)

-- noise from 2,047 down to 0 after 1,200 frames (where the difference stays 0), and below 0 in every other
unfoldable pub hat_level : ℕ → ℤ
hat_level age = signed (age % 2 == 1) ((age * 5_003 + 2_047) % 2_048 * (1_200 - age) / 1_200)

-- the three together
unfoldable pub level_of : Ages → ℤ
level_of ages = kick_level ages.kick +ℤ snare_level ages.snare +ℤ hat_level ages.hat

-- ---- frame by frame

-- the ages after one frame
unfoldable pub ages_at : Pattern → State → ℤ → Ages → ℕ → Ages
ages_at pattern state origin ages frame = ages_after pattern (step_in state origin frame) ages

-- the samples of so many frames from the first on
unfoldable pub sounds_from : Pattern → State → ℤ → Ages → ℕ → ℕ → List ℤ
sounds_from pattern state origin ages first zero = []
sounds_from pattern state origin ages first (suc n) =
    level_of (ages_at pattern state origin ages first)
    ∷ sounds_from pattern state origin (ages_at pattern state origin ages first) (first + 1) n

-- the ages after them
unfoldable pub ages_from : Pattern → State → ℤ → Ages → ℕ → ℕ → Ages
ages_from pattern state origin ages first zero = ages
ages_from pattern state origin ages first (suc n) =
    ages_from pattern state origin (ages_at pattern state origin ages first) (first + 1) n
