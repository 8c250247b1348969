-- What a rehearsal tells, line by line.
use Rattle.std.specs.Prelude.{ℕ, ◌+◌, ◌-◌, ◌^◌, min, ℤ, pos, ◌+ℤ◌, Bool, ◌&&◌, not, if◌then◌else◌, List, [], ◌∷◌, ◌++◌, codes}
use Rattle.std.specs.Fmt.{decimal, signed_decimal}
use Rattle.std.specs.Int.{int_div_euclid, int_rem_euclid}
use Rattle.std.specs.List.{flat_map}
use Rattle.std.specs.Ordering.{int_eq}
use Rattle.client_state.specs.declared.state.State.{State}
use Rattle.step_sequencer.specs.Pattern.{strokes_at}
use Rattle.step_sequencer.specs.Steps.{struck_from}
use Rattle.step_sequencer.specs.declared.pattern.Pattern.{Pattern}
use Rattle.step_sequencer.specs.declared.pattern.Strokes.{Strokes}
use Rattle.step_sequencer.specs.declared.steps.Hit.{Hit}

-- `tempo`, the tempo in microseconds per beat, and the sample from which on it is shown
unfoldable pub tempo_line_of : ℤ → ℕ → List ℕ
tempo_line_of mpb sample = codes "tempo " ++ signed_decimal mpb ++ codes " at sample " ++ decimal sample ++ 10 ∷ []

-- a word, where it is so
abbrev pub word_where : Bool → List ℕ → List ℕ
word_where is_so word = if is_so then word else []

-- what is struck, each behind a space, and a dash where nothing is
unfoldable pub strokes_text_of : Strokes → List ℕ
strokes_text_of strokes =
    word_where strokes.kick (codes " kick") ++ word_where strokes.snare (codes " snare") ++ word_where strokes.hat (codes " hat")
    ++ word_where (not strokes.kick && (not strokes.snare && not strokes.hat)) (codes " -")

-- a step's bar and its place there, both from 1: a bar has 16 steps
unfoldable pub place_text_of : ℤ → List ℕ
place_text_of step =
    codes "bar " ++ signed_decimal (int_div_euclid step (pos 16) +ℤ pos 1) ++ codes " step " ++ signed_decimal (int_rem_euclid step (pos 16) +ℤ pos 1)

-- Rule: A rehearsal tells each step by its bar of 16 steps and its place there, both from 1, the sample at which it begins, and what is
-- struck.
unfoldable pub step_line_of : ℤ → ℕ → Strokes → List ℕ
step_line_of step sample strokes =
    place_text_of step ++ codes " at sample " ++ decimal sample ++ codes ":" ++ strokes_text_of strokes ++ 10 ∷ []

-- `done`, and how many steps and MIDI events there were
unfoldable pub done_line_of : ℕ → ℕ → List ℕ
done_line_of steps events = codes "done " ++ decimal steps ++ codes " " ++ decimal events ++ 10 ∷ []

-- Rule: A rehearsal tells a tempo where another was told last.
abbrev pub tempo_text_of : (told mpb : ℤ) → ℕ → List ℕ
tempo_text_of told mpb sample = if int_eq mpb told then [] else tempo_line_of mpb sample

-- a line for each step
unfoldable pub steps_text_of : Pattern → List Hit → List ℕ
steps_text_of pattern hits = flat_map (λ hit. step_line_of hit.step hit.frame (strokes_at pattern hit.step)) hits

-- a block of 960 frames from this one on: its tempo, where it is another, and the steps that begin in it
abbrev pub block_text_of : (told : ℤ) → Pattern → State → ℤ → ℕ → List ℕ
block_text_of told pattern shown origin first =
    tempo_text_of told shown.timeline.mpb first ++ steps_text_of pattern (struck_from shown origin first 960)

-- so many counted, and these, up to the last number of 64 bits
abbrev pub counted_on : ℕ → ℕ → ℕ
counted_on count more = min (count + more) (2 ^ 64 - 1)
