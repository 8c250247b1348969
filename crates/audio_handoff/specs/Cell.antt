-- What the tokens of a cell stand for, and when they are lawful together.
use Rattle.std.specs.Prelude.{◌≡◌, ℕ, ◌+◌, ◌^◌, ◌<◌, ◌≤◌, List, [], ◌∷◌, ◌++◌, length}
use mathlib.Core.Option.{some}
use lib.ListN.{get_elem?}
use Rattle.atomic_table.specs.Seated.{TableId}

-- a row that was read, behind its number
abbrev pub Pair : Type 0
Pair = ℕ × List ℕ

-- Rule: A cell hands rows from one writer to one reader; rows are numbered from 0, the opening row.
-- A writer: its cell, all rows made, the opening row first, and the atomic steps that it took
pub record WriterView : Type 0 where
  pub cell : TableId
  pub made : List (List ℕ)
  pub steps : ℕ

-- A reader: its cell, the number last read, the pairs read, a look for each, which is the number of the last row made when that read
-- looked, the greatest number told, and the atomic steps that it took
pub record ReaderView : Type 0 where
  pub cell : TableId
  pub number : ℕ
  pub seen : List Pair
  pub looks : List ℕ
  pub told : ℕ
  pub steps : ℕ

-- Rule: A note carries the number of a row from one thread to another, so that the reader reads nothing older from then on.
-- A note: its cell, its number, and the pairs that the reader had read when it was made, or none for a writer's note
pub record NoteView : Type 0 where
  pub cell : TableId
  pub number : ℕ
  pub seen : List Pair

-- the second list begins with the first
abbrev pub Grows : {A : Type 0} → List A → List A → Type 0
Grows {A} before after = (rest : List A) × (after ≡ before ++ rest)

-- the row was made under this number
abbrev pub IsMade : List (List ℕ) → ℕ → List ℕ → Type 0
IsMade made number row = get_elem? made number ≡ some row

-- Rule: At its end a cell answers the row made last.
pub record IsLast (made : List (List ℕ)) (number : ℕ) (row : List ℕ) : Type 0 where
  pub is_made : IsMade made number row
  pub nothing_later : length made ≡ number + 1

-- Rule: Each row that was read from a cell was made, whole and under its number.
abbrev pub WereMade : List (List ℕ) → List Pair → Type 0
WereMade made seen = (k : ℕ) (pair : Pair) → get_elem? seen k ≡ some pair → IsMade made pair.0 pair.1

-- no read answers an older number than a read before it
abbrev pub NumbersNeverFall : List Pair → Type 0
NumbersNeverFall seen = (j k : ℕ) (first second : Pair) → j ≤ k → get_elem? seen j ≡ some first → get_elem? seen k ≡ some second → first.0 ≤ second.0

-- no read answers an older row than the last one made when it looked
abbrev pub LooksWereAnswered : List ℕ → List Pair → Type 0
LooksWereAnswered looks seen = (k : ℕ) (look : ℕ) (pair : Pair) → get_elem? looks k ≡ some look → get_elem? seen k ≡ some pair → look ≤ pair.0

-- the tokens of one cell agree with one another
pub record IsLawful (made : List (List ℕ)) (seen : List Pair) (looks : List ℕ) (told : ℕ) : Type 0 where
  pub seen_were_made : WereMade made seen
  pub numbers_never_fall : NumbersNeverFall seen
  pub one_look_a_read : length looks ≡ length seen
  pub looks_were_answered : LooksWereAnswered looks seen
  pub told_was_made : told < length made
  pub numbers_fit : length made ≤ 2 ^ 60

-- what a reader stands for stays, its steps apart
pub record HasSameReads (before after : ReaderView) : Type 0 where
  pub cell : after.cell ≡ before.cell
  pub number : after.number ≡ before.number
  pub seen : after.seen ≡ before.seen
  pub looks : after.looks ≡ before.looks
  pub told : after.told ≡ before.told

-- what a writer stands for stays, its steps apart
pub record HasSameRows (before after : WriterView) : Type 0 where
  pub cell : after.cell ≡ before.cell
  pub made : after.made ≡ before.made

-- a note of that cell, of the last row that this writer made and of no pair read
abbrev pub IsNoteOfWriter : TableId → WriterView → NoteView → Type 0
IsNoteOfWriter cell writer note = (note.cell ≡ cell) × (note.number + 1 ≡ length writer.made) × (note.seen ≡ [])

-- a note of that cell, of the row that this reader read last and of all that it read
abbrev pub IsNoteOfReader : TableId → ReaderView → NoteView → Type 0
IsNoteOfReader cell reader note = (note.cell ≡ cell) × (note.number ≡ reader.number) × (note.seen ≡ reader.seen)

-- Rule: A read of a cell answers one row with its number, which is at least the number that its look found; and that is at least the number
-- read last and the greatest told.
-- What one read adds: the pair that it answers, and its look. The look is no older than the row last read and than each row told of
-- before, and the pair's number is no older than the look. That the look is the number of the last row made at the step that looked is
-- what each cell's own rule keeps of that step; it isn't said here, where the rows made aren't known
pub record IsOneRead (before after : ReaderView) (number : ℕ) (row : List ℕ) : Type 0 where
  pub seen : after.seen ≡ before.seen ++ (number, row) ∷ []
  pub look : ℕ
  pub looks : after.looks ≡ before.looks ++ look ∷ []
  pub look_is_not_before_last : before.number ≤ look
  pub look_is_not_before_told : before.told ≤ look
  pub look_was_answered : look ≤ number
