-- Only for proofs: the rule of the cell whose words are the last row and its number, and what each step tells.
use Rattle.std.specs.Prelude.{◌≡◌, ℕ, ◌-◌, ◌^◌, ◌<◌, ◌≤◌, ◌⊎◌, List, [], ◌∷◌, ◌++◌, length, take, max, slice_index}
use mathlib.Core.Option.{some}
use lib.ListN.{get_elem?}
use Rattle.atomic_table.specs.Seated.{TableId}
use Rattle.audio_handoff.specs.Cell.{Pair, WriterView, ReaderView, NoteView, Grows, IsLast, WereMade, NumbersNeverFall, LooksWereAnswered, IsLawful}
use Rattle.audio_handoff.specs.declared.seq_state.plays.Known.{Known}
use Rattle.audio_handoff.specs.declared.seq_state.plays.Known.TheVariants.{Blank, Both, Writes, Reads, Notes, Spent}
use Rattle.audio_handoff.specs.declared.seq_state.plays.ReaderKnown.{ReaderKnown}
use Rattle.audio_handoff.specs.declared.seq_state.plays.NoteKnown.{NoteKnown}

abbrev pub first_reader : ReaderKnown
first_reader = record { number = 0; seen = []; looks = []; told = 0; heard = [] }

abbrev pub no_note : NoteKnown
no_note = record { number = 0; seen = [] }

-- the rows that a view knows, if it is of a writer
abbrev pub rows_in : Known → List (List ℕ)
rows_in (Writes rows) = rows
rows_in (Both rows reader) = rows
rows_in (Reads reader) = []
rows_in (Notes note) = []
rows_in Blank = []
rows_in Spent = []

-- the reader that a view is, if it is one
abbrev pub reader_in : Known → ReaderKnown
reader_in (Reads reader) = reader
reader_in (Both rows reader) = reader
reader_in (Writes rows) = first_reader
reader_in (Notes note) = first_reader
reader_in Blank = first_reader
reader_in Spent = first_reader

-- the note that a view is, if it is one
abbrev pub note_in : Known → NoteKnown
note_in (Notes note) = note
note_in (Writes rows) = no_note
note_in (Both rows reader) = no_note
note_in (Reads reader) = no_note
note_in Blank = no_note
note_in Spent = no_note

-- the row, and its number, that the words are
abbrev pub row_of : ℕ → List ℕ → List ℕ
row_of width words = take width words

abbrev pub number_of : List ℕ → ℕ
number_of words = slice_index words 15

-- the reader, after it read the row
abbrev pub after_read : ℕ → ReaderKnown → List ℕ → ReaderKnown
after_read width reader words =
    record { number = number_of words; seen = reader.seen ++ (number_of words, row_of width words) ∷ []; looks = reader.looks ++ number_of words ∷ []; told = reader.told; heard = reader.heard }

-- the reader, after it took in a note
abbrev pub after_tell : ReaderKnown → NoteKnown → ReaderKnown
after_tell reader note = record { number = reader.number; seen = reader.seen; looks = reader.looks; told = max reader.told note.number; heard = note.seen }

abbrev pub parted_left : Known → Known
parted_left view = Writes (rows_in view)

abbrev pub parted_right : Known → Known
parted_right view = Reads (reader_in view)

abbrev pub noted_left : Known → Known
noted_left view = view

-- the note is of the last row made, of the row last read, or of the note's number
abbrev pub noted_right : Known → Known
noted_right (Writes rows) = Notes record { number = length rows - 1; seen = [] }
noted_right (Reads reader) = Notes record { number = reader.number; seen = reader.seen }
noted_right (Notes note) = Notes note
noted_right (Both rows reader) = Spent
noted_right Blank = Spent
noted_right Spent = Spent

abbrev pub told_both : Known → Known → Known
told_both reader note = Reads (after_tell (reader_in reader) (note_in note))

abbrev pub settled_both : Known → Known → Known
settled_both writer reader = Both (rows_in writer) (reader_in reader)

-- what was read was made and was new enough, and what was told and heard was made and read
pub record ReadsAgree (made : List (List ℕ)) (reader : ReaderKnown) : Type 0 where
  pub seen_were_made : WereMade made reader.seen
  pub numbers_never_fall : NumbersNeverFall reader.seen
  pub none_is_newer : (k : ℕ) (pair : Pair) → get_elem? reader.seen k ≡ some pair → pair.0 ≤ reader.number
  pub looks_are_met : (k : ℕ) (look : ℕ) → get_elem? reader.looks k ≡ some look → look ≤ reader.number
  pub looks_were_answered : LooksWereAnswered reader.looks reader.seen
  pub one_look_a_read : length reader.looks ≡ length reader.seen
  pub number_was_made : reader.number < length made
  pub told_was_made : reader.told < length made
  pub heard_was_read : Grows reader.heard reader.seen

-- the writer's seat knows the rows, the reader's what was read, and a note is of a row made and of pairs read
abbrev pub FitsSeat : List (List ℕ) → ReaderKnown → ℕ → ℕ → ℕ → Known → Type 0
FitsSeat made reader writer_seat reader_seat at (Writes rows) = (at ≡ writer_seat) × (rows ≡ made)
FitsSeat made reader writer_seat reader_seat at (Reads own) = (at ≡ reader_seat) × (own ≡ reader)
FitsSeat made reader writer_seat reader_seat at (Both rows own) = (at ≡ writer_seat) × (at ≡ reader_seat) × (rows ≡ made) × (own ≡ reader)
FitsSeat made reader writer_seat reader_seat at (Notes note) = (note.number < length made) × Grows note.seen reader.seen
FitsSeat made reader writer_seat reader_seat at Spent = Unit {0}
FitsSeat made reader writer_seat reader_seat at Blank = ⊥

pub record Running (width : ℕ) (words : List ℕ) (views : List Known) : Type 0 where
  pub made : List (List ℕ)
  pub reader : ReaderKnown
  pub writer_seat : ℕ
  pub reader_seat : ℕ
  pub last : IsLast made (number_of words) (row_of width words)
  pub reads_agree : ReadsAgree made reader
  pub numbers_fit : length made ≤ 2 ^ 60
  pub each_seat : (at : ℕ) (view : Known) → get_elem? views at ≡ some view → FitsSeat made reader writer_seat reader_seat at view

-- Before the opening row there is the first pass alone. It stays shut where the steps are proved, so that goals stay small
unfoldable pub Kept : ℕ → List ℕ → List Known → Type 0
Kept width words views = (length words ≡ 16) × ((views ≡ Blank ∷ []) ⊎ Running width words views)

abbrev pub Opened : ℕ → Known → List ℕ → List ℕ → Known → Type 0
Opened width before found stored after = after ≡ Both (row_of width stored ∷ []) first_reader

abbrev pub Published : ℕ → Known → List ℕ → List ℕ → Known → Type 0
Published width before found stored after = after ≡ Writes (rows_in before ++ row_of width stored ∷ [])

abbrev pub WasRead : ℕ → Known → List ℕ → List ℕ → Known → Type 0
WasRead width before found same after =
    (after ≡ Reads (after_read width (reader_in before) found))
    × ((reader_in before).number ≤ number_of found)
    × ((reader_in before).told ≤ number_of found)
    × (number_of found < 2 ^ 60)

abbrev pub Checked : Known → List ℕ → List ℕ → Known → Type 0
Checked before found same after = (after ≡ before) × Grows (reader_in before).heard (reader_in before).seen

abbrev pub Ended : ℕ → Known → List ℕ → List ℕ → Known → Type 0
Ended width before found same after =
    IsLast (rows_in before) (number_of found) (row_of width found)
    × IsLawful (rows_in before) (reader_in before).seen (reader_in before).looks (reader_in before).told

-- what a token is between two calls
pub record RestsAsWriter (made : ℕ) (view : Known) : Type 0 where
  pub is : view ≡ Writes (rows_in view)
  pub made_is : length (rows_in view) ≡ made
  pub some_made : 0 < made
  pub made_fits : made ≤ 2 ^ 60

pub record RestsAsReader (number : ℕ) (view : Known) : Type 0 where
  pub is : view ≡ Reads (reader_in view)
  pub number_is : (reader_in view).number ≡ number

abbrev pub RestsAsNote : Known → Type 0
RestsAsNote view = view ≡ Notes (note_in view)

-- the steps of such a cell aren't told
abbrev pub writing_of : TableId → Known → WriterView
writing_of cell view = record { cell = cell; made = rows_in view; steps = 0 }

abbrev pub reading_of : TableId → Known → ReaderView
reading_of cell view = let reader = reader_in view in record { cell = cell; number = reader.number; seen = reader.seen; looks = reader.looks; told = reader.told; steps = 0 }

abbrev pub noting_of : TableId → Known → NoteView
noting_of cell view = record { cell = cell; number = (note_in view).number; seen = (note_in view).seen }
