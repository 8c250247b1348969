-- Only for proofs: what a seat of the table knows, and how its steps change it.
use Rattle.std.specs.Prelude.{ℕ, ◌+◌, ◌-◌, List, [], ◌∷◌, ◌++◌, length, max}
use Rattle.audio_handoff.specs.Cell.{Pair}
use Rattle.triple_buffer.specs.Word.{number_in, back_in}
use Rattle.triple_buffer.specs.declared.views.View.{View}
use Rattle.triple_buffer.specs.declared.views.View.TheVariants.{Opens, Writes, Reads, Notes, Settled, Spent}
use Rattle.triple_buffer.specs.declared.views.WriterState.{WriterState}
use Rattle.triple_buffer.specs.declared.views.ReaderState.{ReaderState}
use Rattle.triple_buffer.specs.declared.views.NoteState.{NoteState}
use Rattle.triple_buffer.specs.declared.views.Phase.TheVariants.{Idle, SawNew, Loading}

abbrev pub no_writer : WriterState
no_writer = record { place = 0; made = []; stored = []; steps = 0 }

abbrev pub no_reader : ReaderState
no_reader = record { place = 0; number = 0; phase = Idle; loaded = []; seen = []; looks = []; told = 0; heard = []; steps = 0 }

abbrev pub no_note : NoteState
no_note = record { number = 0; seen = []; steps = 0 }

-- the writer that a view is, if it is one
abbrev pub writer_in : View → WriterState
writer_in (Writes writer) = writer
writer_in (Opens row) = no_writer
writer_in (Reads reader) = no_writer
writer_in (Notes note) = no_writer
writer_in (Settled writer reader) = writer
writer_in Spent = no_writer

-- the reader that a view is, if it is one
abbrev pub reader_in : View → ReaderState
reader_in (Reads reader) = reader
reader_in (Opens row) = no_reader
reader_in (Writes writer) = no_reader
reader_in (Notes note) = no_reader
reader_in (Settled writer reader) = reader
reader_in Spent = no_reader

-- the note that a view is, if it is one
abbrev pub note_in : View → NoteState
note_in (Notes note) = note
note_in (Opens row) = no_note
note_in (Writes writer) = no_note
note_in (Reads reader) = no_note
note_in (Settled writer reader) = no_note
note_in Spent = no_note

-- The writer begins with row 2, and the step that parts the two ends is its own
abbrev pub first_writer : List ℕ → WriterState
first_writer row = record { place = 2; made = row ∷ []; stored = []; steps = 1 }

abbrev pub first_reader : ReaderState
first_reader = no_reader

-- a word more is stored
abbrev pub after_store : WriterState → ℕ → WriterState
after_store writer word = record { place = writer.place; made = writer.made; stored = writer.stored ++ word ∷ []; steps = writer.steps + 1 }

-- these are the words stored
abbrev pub after_stores : WriterState → List ℕ → ℕ → WriterState
after_stores writer words count = record { place = writer.place; made = writer.made; stored = words; steps = writer.steps + count }

-- the words stored are made a row, and the old back row is the writer's
abbrev pub after_show : WriterState → ℕ → WriterState
after_show writer found = record { place = back_in found; made = writer.made ++ writer.stored ∷ []; stored = []; steps = writer.steps + 1 }

-- the reader looked, and the back row is new to it
abbrev pub after_new_look : ReaderState → ℕ → ReaderState
after_new_look reader found = record reader { phase = SawNew; looks = reader.looks ++ number_in found ∷ []; steps = reader.steps + 1 }

-- the reader looked, and its own row is the last one made
abbrev pub after_old_look : ReaderState → ReaderState
after_old_look reader = record reader { phase = Loading; looks = reader.looks ++ reader.number ∷ []; steps = reader.steps + 1 }

-- the old back row is the reader's
abbrev pub after_turn : ReaderState → ℕ → ReaderState
after_turn reader found = record reader { place = back_in found; number = number_in found; phase = Loading; steps = reader.steps + 1 }

-- a word more is loaded
abbrev pub after_load : ReaderState → ℕ → ReaderState
after_load reader word = record reader { loaded = reader.loaded ++ word ∷ []; steps = reader.steps + 1 }

-- these are the words loaded
abbrev pub after_loads : ReaderState → List ℕ → ℕ → ReaderState
after_loads reader words count = record reader { loaded = words; steps = reader.steps + count }

-- the row is read, whole, by so many steps
abbrev pub after_read : ReaderState → List ℕ → ℕ → ReaderState
after_read reader row count = record reader { phase = Idle; loaded = []; seen = reader.seen ++ (reader.number, row) ∷ []; steps = reader.steps + count }

-- the last word is loaded, and the read is over
abbrev pub after_last_load : ReaderState → ℕ → ReaderState
after_last_load reader word = record reader { phase = Idle; loaded = []; seen = reader.seen ++ (reader.number, reader.loaded ++ word ∷ []) ∷ []; steps = reader.steps + 1 }

-- the reader takes in a note
abbrev pub after_tell : ReaderState → NoteState → ReaderState
after_tell reader note = record reader { told = max reader.told note.number; heard = note.seen; steps = reader.steps + 1 }

abbrev pub writer_stepped : WriterState → WriterState
writer_stepped writer = record writer { steps = writer.steps + 1 }

abbrev pub reader_stepped : ReaderState → ReaderState
reader_stepped reader = record reader { steps = reader.steps + 1 }

abbrev pub note_stepped : NoteState → NoteState
note_stepped note = record note { steps = note.steps + 1 }

-- a new note of this number
abbrev pub new_note : ℕ → List Pair → NoteState
new_note number seen = record { number = number; seen = seen; steps = 0 }

-- the opening seat becomes the writer
abbrev pub opened_left : View → View
opened_left (Opens row) = Writes (first_writer row)
opened_left view = view

abbrev pub opened_right : View → View
opened_right view = Reads first_reader

-- the seat that makes a note keeps what it knows
abbrev pub noted_left : View → View
noted_left (Writes writer) = Writes (writer_stepped writer)
noted_left (Reads reader) = Reads (reader_stepped reader)
noted_left (Notes note) = Notes (note_stepped note)
noted_left (Opens row) = Opens row
noted_left (Settled writer reader) = Settled writer reader
noted_left Spent = Spent

-- the note is of the last row made, of the row last read, or of the note's number
abbrev pub noted_right : View → View
noted_right (Writes writer) = Notes (new_note (length writer.made - 1) [])
noted_right (Reads reader) = Notes (new_note reader.number reader.seen)
noted_right (Notes note) = Notes (new_note note.number note.seen)
noted_right (Opens row) = Spent
noted_right (Settled writer reader) = Spent
noted_right Spent = Spent

abbrev pub told_both : View → View → View
told_both reader note = Reads (after_tell (reader_in reader) (note_in note))

abbrev pub settled_both : View → View → View
settled_both writer reader = Settled (writer_stepped (writer_in writer)) (reader_in reader)
