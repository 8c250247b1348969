-- Only for proofs: the rule of the three rows, which holds between any two steps.
use Rattle.std.specs.Prelude.{◌≡◌, ◌≢◌, ℕ, ◌+◌, ◌*◌, ◌^◌, ◌<◌, ◌≤◌, ◌⊎◌, Bool, true, false, List, [], ◌∷◌, ◌++◌, length, slice_index}
use mathlib.Core.Option.{some}
use lib.ListN.{get_elem?}
use Rattle.atomic_table.specs.Table.{State}
use Rattle.audio_handoff.specs.Cell.{Pair, Grows, IsMade, WereMade, NumbersNeverFall, LooksWereAnswered}
use Rattle.triple_buffer.specs.Word.{number_in, fresh_in, back_in}
use Rattle.triple_buffer.specs.declared.views.View.{View}
use Rattle.triple_buffer.specs.declared.views.View.TheVariants.{Opens, Writes, Reads, Notes, Settled, Spent}
use Rattle.triple_buffer.specs.declared.views.WriterState.{WriterState}
use Rattle.triple_buffer.specs.declared.views.ReaderState.{ReaderState}
use Rattle.triple_buffer.specs.declared.views.Phase.{Phase}
use Rattle.triple_buffer.specs.declared.views.Phase.TheVariants.{Idle, SawNew, Loading}

-- Word 0 is the state word, and the row of each place follows
abbrev pub word_at : ℕ → ℕ → ℕ → ℕ
word_at width place i = place * width + 1 + i

-- the row at the place begins with this part
pub record Begins (width : ℕ) (words : List ℕ) (place : ℕ) (part : List ℕ) : Type 0 where
  pub is_no_longer : length part ≤ width
  pub each : (i : ℕ) → i < length part → slice_index words (word_at width place i) ≡ slice_index part i

-- the row at the place is the row made under this number
pub record HoldsMade (width : ℕ) (words : List ℕ) (made : List (List ℕ)) (place number : ℕ) : Type 0 where
  pub row : List ℕ
  pub is_made : IsMade made number row
  pub is_whole : length row ≡ width
  pub begins : Begins width words place row

-- Rule: Of the three rows of a triple buffer one is the writer's, one the reader's and one is handed over.
-- the three are 0, 1 and 2 in some order
pub record AreApart (writer back reader : ℕ) : Type 0 where
  pub writer_fits : writer < 3
  pub back_fits : back < 3
  pub reader_fits : reader < 3
  pub writer_from_back : writer ≢ back
  pub writer_from_reader : writer ≢ reader
  pub back_from_reader : back ≢ reader

-- Rule: The row handed over is the row made last, unless the reader has that one already.
pub record KnowsNewest (count state number : ℕ) : Type 0 where
  pub fresh : fresh_in state ≡ 1 → (number_in state + 1 ≡ count) × (number < number_in state)
  pub stale : fresh_in state ≡ 0 → (number + 1 ≡ count) × ((number_in state < number) ⊎ ((number_in state ≡ 0) × (number ≡ 0)))

-- the words stored and loaded are those of the rows
pub record PartsAgree (width : ℕ) (words : List ℕ) (writer_place : ℕ) (stored : List ℕ) (reader_place : ℕ) (phase : Phase) (loaded : List ℕ) : Type 0 where
  pub stored_begins : Begins width words writer_place stored
  pub loaded_begins : Begins width words reader_place loaded
  pub none_outside : phase ≢ Loading → loaded ≡ []

-- no number in the list is greater
abbrev pub AllAtMost : List ℕ → ℕ → Type 0
AllAtMost numbers limit = (k : ℕ) (number : ℕ) → get_elem? numbers k ≡ some number → number ≤ limit

-- each pair read was made as it was read, and no number is above the reader's
pub record PairsAgree (made : List (List ℕ)) (number : ℕ) (seen : List Pair) : Type 0 where
  pub seen_were_made : WereMade made seen
  pub numbers_never_fall : NumbersNeverFall seen
  pub none_is_newer : (k : ℕ) (pair : Pair) → get_elem? seen k ≡ some pair → pair.0 ≤ number

-- a look for each pair, one more within a read
pub record LooksAgree (made : List (List ℕ)) (phase : Phase) (seen : List Pair) (looks : List ℕ) : Type 0 where
  pub looks_were_made : (k : ℕ) (look : ℕ) → get_elem? looks k ≡ some look → look < length made
  pub looks_were_answered : LooksWereAnswered looks seen
  pub one_look_a_read : phase ≡ Idle → length looks ≡ length seen
  pub one_look_more : phase ≢ Idle → length looks ≡ length seen + 1

-- a reader that loads its row has one that is new enough
pub record IsNewEnough (number : ℕ) (phase : Phase) (looks : List ℕ) (told : ℕ) : Type 0 where
  pub told_is_met : phase ≡ Loading → told ≤ number
  pub looks_are_met : phase ≡ Loading → AllAtMost looks number

pub record ReadsAgree (made : List (List ℕ)) (number : ℕ) (phase : Phase) (seen : List Pair) (looks : List ℕ) (told : ℕ) : Type 0 where
  pub pairs : PairsAgree made number seen
  pub open pairs use *
  pub looks_agree : LooksAgree made phase seen looks
  pub open looks_agree use *
  pub met : IsNewEnough number phase looks told
  pub open met use *

-- of the seats but the two ends: a note's number was made, and its list was read
abbrev pub IsNoteOf : List (List ℕ) → List Pair → View → Type 0
IsNoteOf made seen (Notes note) = (note.number < length made) × Grows note.seen seen
IsNoteOf made seen Spent = Unit {0}
IsNoteOf made seen (Opens row) = ⊥
IsNoteOf made seen (Writes writer) = ⊥
IsNoteOf made seen (Reads reader) = ⊥
IsNoteOf made seen (Settled writer reader) = ⊥

pub record NotesAgree (made : List (List ℕ)) (seen : List Pair) (told : ℕ) (heard : List Pair) (others : List View) : Type 0 where
  pub told_was_made : told < length made
  pub heard_was_read : Grows heard seen
  pub each_note : (k : ℕ) (view : View) → get_elem? others k ≡ some view → IsNoteOf made seen view

-- where the rows are, under which numbers they were made, and which is the newest
pub record RowsAgree (width : ℕ) (words : List ℕ) (made : List (List ℕ)) (writer_place reader_place number : ℕ) : Type 0 where
  pub wide : length words ≡ 3 * width + 1
  pub state : ℕ
  pub is_state : slice_index words 0 ≡ state
  pub rows_are_apart : AreApart writer_place (back_in state) reader_place
  pub back_is_made : HoldsMade width words made (back_in state) (number_in state)
  pub own_is_made : HoldsMade width words made reader_place number
  pub newest : KnowsNewest (length made) state number
  pub numbers_fit : length made ≤ 2 ^ 60

pub record Rule (width : ℕ) (words : List ℕ) (writer : WriterState) (reader : ReaderState) (others : List View) : Type 0 where
  pub rows : RowsAgree width words writer.made writer.place reader.place reader.number
  pub open rows use *
  pub saw_new : reader.phase ≡ SawNew → fresh_in state ≡ 1
  pub parts_agree : PartsAgree width words writer.place writer.stored reader.place reader.phase reader.loaded
  pub reads_agree : ReadsAgree writer.made reader.number reader.phase reader.seen reader.looks reader.told
  pub notes_agree : NotesAgree writer.made reader.seen reader.told reader.heard others

-- the seats: the writer's, the reader's, and those of the notes; or the one of both ends, the one that it took in, and those of the notes
abbrev pub seats_of : Bool → WriterState → ReaderState → List View → List View
seats_of true writer reader others = Settled writer reader ∷ Spent ∷ others
seats_of false writer reader others = Writes writer ∷ Reads reader ∷ others

pub record Running (width : ℕ) (s : State (Unit {0}) View) : Type 0 where
  pub writer : WriterState
  pub reader : ReaderState
  pub others : List View
  pub settled : Bool
  pub seats : s.views ≡ seats_of settled writer reader others
  pub rule : Rule width s.words writer reader others

-- before the ends are parted all three rows are the opening row
pub record Opening (row : List ℕ) (s : State (Unit {0}) View) : Type 0 where
  pub words : s.words ≡ 1 ∷ ((row ++ row) ++ row)
  pub seat : s.views ≡ Opens row ∷ []

-- what holds of a table whose opening row was this
abbrev pub Kept : List ℕ → State (Unit {0}) View → Type 0
Kept row s = Opening row s ⊎ Running (length row) s
