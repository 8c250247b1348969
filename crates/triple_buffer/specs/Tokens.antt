-- Only for proofs: what a token is between two calls, and what it stands for.
use Rattle.std.specs.Prelude.{◌≡◌, ℕ, ◌+◌, ◌*◌, ◌^◌, ◌<◌, ◌≤◌, ◌⊎◌, List, [], ◌∷◌, ◌++◌, length}
use Rattle.atomic_table.specs.Seated.{TableId}
use Rattle.audio_handoff.specs.Cell.{WriterView, ReaderView, NoteView}
use Rattle.triple_buffer.specs.Views.{writer_in, reader_in, note_in}
use Rattle.triple_buffer.specs.Steps.{Sat}
use Rattle.triple_buffer.specs.declared.views.View.{View}
use Rattle.triple_buffer.specs.declared.views.View.TheVariants.{Writes, Reads, Notes}
use Rattle.triple_buffer.specs.declared.views.Phase.TheVariants.{Idle, Loading}

-- a table of three rows of this width and the state word, with no slots, that was told a row
pub record IsThreeRows (width : ℕ) (table : TableId) (row : List ℕ) : Type 0 where
  pub words : table.words ≡ 3 * width + 1
  pub slots : table.slots ≡ 0
  pub key : length row ≡ width
  pub some_words : 0 < width
  pub few_words : width < 16

-- the writer has stored nothing of the next row
pub record RestsAsWriter (place made : ℕ) (me : Sat) : Type 0 where
  pub is : me.0 ≡ Writes (writer_in me.0)
  pub place_is : (writer_in me.0).place ≡ place
  pub place_fits : place < 3
  pub made_is : length (writer_in me.0).made ≡ made
  pub some_made : 0 < made
  pub made_fits : made ≤ 2 ^ 60
  pub none_stored : (writer_in me.0).stored ≡ []
  pub bare : me.1 ≡ []

-- the reader is in no read
pub record RestsAsReader (place number : ℕ) (me : Sat) : Type 0 where
  pub is : me.0 ≡ Reads (reader_in me.0)
  pub place_is : (reader_in me.0).place ≡ place
  pub place_fits : place < 3
  pub number_is : (reader_in me.0).number ≡ number
  pub number_fits : number < 2 ^ 60
  pub idle : (reader_in me.0).phase ≡ Idle
  pub none_loaded : (reader_in me.0).loaded ≡ []
  pub bare : me.1 ≡ []

-- The reader is about to load the words of its row. Between two calls it looked once, and perhaps took the back row
pub record HasCaughtUp (before after : Sat) (place number : ℕ) : Type 0 where
  pub is : after.0 ≡ Reads (reader_in after.0)
  pub place_is : (reader_in after.0).place ≡ place
  pub place_fits : place < 3
  pub number_is : (reader_in after.0).number ≡ number
  pub number_fits : number < 2 ^ 60
  pub loading : (reader_in after.0).phase ≡ Loading
  pub none_loaded : (reader_in after.0).loaded ≡ []
  pub seen : (reader_in after.0).seen ≡ (reader_in before.0).seen
  pub look : ℕ
  pub looks : (reader_in after.0).looks ≡ (reader_in before.0).looks ++ look ∷ []
  pub look_is_not_before_last : (reader_in before.0).number ≤ look
  pub look_is_not_before_told : (reader_in before.0).told ≤ look
  pub look_is_met : look ≤ number
  pub told : (reader_in after.0).told ≡ (reader_in before.0).told
  pub told_is_met : (reader_in before.0).told ≤ number
  pub never_falls : (reader_in before.0).number ≤ number
  pub steps : ((reader_in after.0).steps ≡ (reader_in before.0).steps + 1) ⊎ ((reader_in after.0).steps ≡ (reader_in before.0).steps + 2)
  pub bare : after.1 ≡ before.1

pub record RestsAsNote (me : Sat) : Type 0 where
  pub is : me.0 ≡ Notes (note_in me.0)
  pub bare : me.1 ≡ []

-- Rule: Over a triple buffer, which tells its atomic steps, a publish takes W + 1 of them for a row of W words, whatever the reader does:
-- 12 for a state (`steps` of `StateCell::publish` in `audio_handoff/src/cell.rt`).
abbrev pub writing_of : TableId → View → WriterView
writing_of table view = record { cell = table; made = (writer_in view).made; steps = (writer_in view).steps }

-- Rule: Over a triple buffer, an audio read takes W + 1 or W + 2 atomic steps for a row of W words, whatever the writer does: 12 or 13 for
-- a state (`steps` of `StateCell::read` in `audio_handoff/src/cell.rt`).
abbrev pub reading_of : TableId → View → ReaderView
reading_of table view =
    let reader = reader_in view in
    record { cell = table; number = reader.number; seen = reader.seen; looks = reader.looks; told = reader.told; steps = reader.steps }

abbrev pub noting_of : TableId → View → NoteView
noting_of table view = record { cell = table; number = (note_in view).number; seen = (note_in view).seen }
