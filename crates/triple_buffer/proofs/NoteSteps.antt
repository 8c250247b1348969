-- Notes are split off and taken in, and at the end the reader is taken in: each keeps the rule.
use Rattle.std.proofs.Common.{◌≡◌, ◌≢◌, ℕ, zero, suc, ◌+◌, ◌-◌, ◌<◌, Bool, true, false, List, [], ◌∷◌, ◌++◌, length, set, sym, refl, ap, ◌∙◌, subst, inl, inr, ⊎_elim, arith}
use mathlib.Core.Option.{some, some-injective}
use lib.ListN.{get_elem?}
use Rattle.atomic_table.specs.Table.{Splits, Joins}
use Rattle.atomic_table.proofs.Lists.{at_set}
use Rattle.audio_handoff.specs.Cell.{Pair}
use Rattle.triple_buffer.specs.Views.{writer_in, reader_in, note_in, new_note, writer_stepped, reader_stepped, note_stepped, after_tell, noted_left, noted_right, told_both, settled_both}
use Rattle.triple_buffer.specs.Rule.{IsNoteOf, Rule, seats_of, Kept}
use Rattle.triple_buffer.specs.declared.views.View.{View}
use Rattle.triple_buffer.specs.declared.views.View.TheVariants.{Writes, Reads, Notes, Settled, Spent}
use Rattle.triple_buffer.specs.declared.views.WriterState.{WriterState}
use Rattle.triple_buffer.specs.declared.views.ReaderState.{ReaderState}
use Rattle.triple_buffer.specs.declared.views.NoteState.{NoteState}
use Rattle.triple_buffer.specs.declared.views.Phase.TheVariants.{Idle}
use Rattle.audio_handoff.proofs.CellLists.{below_length, snoc_at, grows_none, grows_self}
use Rattle.triple_buffer.proofs.SeatFinds.{steps_of_ends, opening_at, find_writer, find_reader, find_note}

module _ (w : ℕ) (words : List ℕ) (writer : WriterState) (reader : ReaderState) (others : List View) (r : Rule w words writer reader others) where
  -- other seats, of which the rule holds too
  with_others : (next : List View) → ((k : ℕ) (view : View) → get_elem? next k ≡ some view → IsNoteOf writer.made reader.seen view) → Rule w words writer reader next
  with_others next each = record {
    rows = r.rows;
    saw_new = r.saw_new;
    parts_agree = r.parts_agree;
    reads_agree = r.reads_agree;
    notes_agree = record { told_was_made = r.notes_agree.told_was_made; heard_was_read = r.notes_agree.heard_was_read; each_note = each };
  }

  note_added : (view : View) → IsNoteOf writer.made reader.seen view → Rule w words writer reader (others ++ view ∷ [])
  note_added view new = with_others (others ++ view ∷ [])
      (λ k v e. ⊎_elim (r.notes_agree.each_note k v) (λ (t : (k ≡ length others) × (view ≡ v)). subst (IsNoteOf writer.made reader.seen) t.1 new) (snoc_at others view v k e))

  note_set : (at : ℕ) (view : View) → IsNoteOf writer.made reader.seen view → Rule w words writer reader (set others at view)
  note_set at view new = with_others (set others at view)
      (λ k v e. ⊎_elim (λ (t : (k ≡ at) × (view ≡ v)). subst (IsNoteOf writer.made reader.seen) t.1 new) (λ (t : (k ≢ at) × (get_elem? others k ≡ some v)). r.notes_agree.each_note k v t.1) (at_set others at k view v e))

  some_made : 0 < length writer.made
  some_made = let l = below_length writer.made _ r.own_is_made.row r.own_is_made.is_made in omega arith

  own_number : reader.number < length writer.made
  own_number = below_length writer.made reader.number r.own_is_made.row r.own_is_made.is_made

  told_keeps : (note : NoteState) → IsNoteOf writer.made reader.seen (Notes note) → reader.phase ≡ Idle → Rule w words writer (after_tell reader note) others
  told_keeps note is idle =
      let reads = r.reads_agree in
      let told = r.notes_agree.told_was_made in
      let new = is.0 in record {
        rows = r.rows;
        saw_new = r.saw_new;
        parts_agree = r.parts_agree;
        reads_agree = record {
          pairs = reads.pairs;
          looks_agree = reads.looks_agree;
          met = record {
            told_is_met = λ l. absurd (cc);
            looks_are_met = λ l. absurd (cc);
          };
        };
        notes_agree = record { told_was_made = omega arith; heard_was_read = is.1; each_note = r.notes_agree.each_note };
      }

seats_added : (settled : Bool) (writer : WriterState) (reader : ReaderState) (others : List View) (view : View) → seats_of settled writer reader others ++ view ∷ [] ≡ seats_of settled writer reader (others ++ view ∷ [])
seats_added true writer reader others view = refl
seats_added false writer reader others view = refl

seats_set : (settled : Bool) (writer : WriterState) (reader : ReaderState) (others : List View) (k : ℕ) (view : View) → set (seats_of settled writer reader others) (suc (suc k)) view ≡ seats_of settled writer reader (set others k view)
seats_set true writer reader others k view = refl
seats_set false writer reader others k view = refl

module _ (row : List ℕ) (id : ℕ) where
  writer_notes : (writer : WriterState) → Splits (Kept row) id (Writes writer) (noted_left (Writes writer)) (noted_right (Writes writer))
  writer_notes writer s (inl o) at = let e = opening_at row s id (Writes writer) o at in absurd (cc)
  writer_notes writer s (inr r) at =
      let found = find_writer r.settled r.writer r.reader r.others r.writer.made r.reader.seen id writer r.rule.notes_agree.each_note (ap (λ l. get_elem? l id) (sym r.seats) ∙ at) in
      let rule = subst (λ x. Rule (length row) s.words x r.reader r.others) found.1 r.rule in
      let note : View = Notes (new_note (length writer.made - 1) []) in
      let left : View = Writes (writer_stepped writer) in
      let some_rows = some_made (length row) s.words writer r.reader r.others rule in
      inr record {
        writer = writer_stepped writer;
        reader = r.reader;
        others = r.others ++ note ∷ [];
        settled = false;
        seats = ap (λ l. set l id left ++ note ∷ []) r.seats
            ∙ (ap (λ k. set (seats_of r.settled r.writer r.reader r.others) k left ++ note ∷ []) found.0 ∙ ap (λ b. set (seats_of b r.writer r.reader r.others) 0 left ++ note ∷ []) found.2);
        rule = steps_of_ends (length row) s.words writer r.reader (r.others ++ note ∷ [])
            (note_added (length row) s.words writer r.reader r.others rule note (omega arith, grows_none r.reader.seen)) (writer.steps + 1) r.reader.steps;
      }

  reader_notes : (reader : ReaderState) → Splits (Kept row) id (Reads reader) (noted_left (Reads reader)) (noted_right (Reads reader))
  reader_notes reader s (inl o) at = let e = opening_at row s id (Reads reader) o at in absurd (cc)
  reader_notes reader s (inr r) at =
      let found = find_reader r.settled r.writer r.reader r.others r.writer.made r.reader.seen id reader r.rule.notes_agree.each_note (ap (λ l. get_elem? l id) (sym r.seats) ∙ at) in
      let rule = subst (λ x. Rule (length row) s.words r.writer x r.others) found.1 r.rule in
      let note : View = Notes (new_note reader.number reader.seen) in
      let left : View = Reads (reader_stepped reader) in
      inr record {
        writer = r.writer;
        reader = reader_stepped reader;
        others = r.others ++ note ∷ [];
        settled = false;
        seats = ap (λ l. set l id left ++ note ∷ []) r.seats
            ∙ (ap (λ k. set (seats_of r.settled r.writer r.reader r.others) k left ++ note ∷ []) found.0 ∙ ap (λ b. set (seats_of b r.writer r.reader r.others) 1 left ++ note ∷ []) found.2);
        rule = steps_of_ends (length row) s.words r.writer reader (r.others ++ note ∷ [])
            (note_added (length row) s.words r.writer reader r.others rule note (own_number (length row) s.words r.writer reader r.others rule, grows_self reader.seen)) r.writer.steps (reader.steps + 1);
      }

  note_copies : (note : NoteState) → Splits (Kept row) id (Notes note) (noted_left (Notes note)) (noted_right (Notes note))
  note_copies note s (inl o) at = let e = opening_at row s id (Notes note) o at in absurd (cc)
  note_copies note s (inr r) at =
      let found = find_note r.settled r.writer r.reader r.others id note (ap (λ l. get_elem? l id) (sym r.seats) ∙ at) in
      let k : ℕ = found.0 in
      let left : View = Notes (note_stepped note) in
      let copy : View = Notes (new_note note.number note.seen) in
      let is = r.rule.notes_agree.each_note k (Notes note) found.2 in
      inr record {
        writer = r.writer;
        reader = r.reader;
        others = set r.others k left ++ copy ∷ [];
        settled = r.settled;
        seats = ap (λ l. set l id left ++ copy ∷ []) r.seats
            ∙ (ap (λ j. set (seats_of r.settled r.writer r.reader r.others) j left ++ copy ∷ []) found.1
            ∙ (ap (λ l. l ++ copy ∷ []) (seats_set r.settled r.writer r.reader r.others k left) ∙ seats_added r.settled r.writer r.reader (set r.others k left) copy));
        rule = note_added (length row) s.words r.writer r.reader (set r.others k left) (note_set (length row) s.words r.writer r.reader r.others r.rule k left is) copy is;
      }

  tells_reader : (other : ℕ) (reader : ReaderState) (note : NoteState) → reader.phase ≡ Idle → Joins (Kept row) id (Reads reader) other (Notes note) (Reads (after_tell reader note)) Spent
  tells_reader other reader note idle s (inl o) at apart there = let e = opening_at row s id (Reads reader) o at in absurd (cc)
  tells_reader other reader note idle s (inr r) at apart there =
      let found = find_reader r.settled r.writer r.reader r.others r.writer.made r.reader.seen id reader r.rule.notes_agree.each_note (ap (λ l. get_elem? l id) (sym r.seats) ∙ at) in
      let rule = subst (λ x. Rule (length row) s.words r.writer x r.others) found.1 r.rule in
      let both : View = Reads (after_tell reader note) in
      let seats : set s.views id both ≡ seats_of false r.writer (after_tell reader note) r.others =
      ap (λ l. set l id both) r.seats ∙ (ap (λ k. set (seats_of r.settled r.writer r.reader r.others) k both) found.0 ∙ ap (λ b. set (seats_of b r.writer r.reader r.others) 1 both) found.2) in
      let note_at = find_note false r.writer (after_tell reader note) r.others other note (ap (λ l. get_elem? l other) (sym seats) ∙ there) in
      let k : ℕ = note_at.0 in
      let is = rule.notes_agree.each_note k (Notes note) note_at.2 in
      inr record {
        writer = r.writer;
        reader = after_tell reader note;
        others = set r.others k Spent;
        settled = false;
        seats = ap (λ l. set l other Spent) seats ∙ ap (λ j. set (seats_of false r.writer (after_tell reader note) r.others) j Spent) note_at.1;
        rule = note_set (length row) s.words r.writer (after_tell reader note) r.others (told_keeps (length row) s.words r.writer reader r.others rule note is idle) k Spent tt;
      }

  reader_beside : (writer : WriterState) (own reader : ReaderState) (others : List View) (made : List (List ℕ)) (seen : List Pair) (other : ℕ) (both : View) → reader_in both ≡ reader → both ≡ Settled writer reader
      → ((k : ℕ) (view : View) → get_elem? others k ≡ some view → IsNoteOf made seen view) → get_elem? (both ∷ Reads own ∷ others) other ≡ some (Reads reader) → (other ≡ 1) × (own ≡ reader)
  reader_beside writer own reader others made seen zero both in_it is notes at = let e = sym is ∙ some-injective both (Reads reader) at in absurd (cc)
  reader_beside writer own reader others made seen (suc zero) both in_it is notes at = (refl, ap reader_in (some-injective (Reads own) (Reads reader) at))
  reader_beside writer own reader others made seen (suc (suc k)) both in_it is notes at = absurd (notes k (Reads reader) at)

  settles_ends : (other : ℕ) (writer : WriterState) (reader : ReaderState) → Joins (Kept row) id (Writes writer) other (Reads reader) (Settled (writer_stepped writer) reader) Spent
  settles_ends other writer reader s (inl o) at apart there = let e = opening_at row s id (Writes writer) o at in absurd (cc)
  settles_ends other writer reader s (inr r) at apart there =
      let found = find_writer r.settled r.writer r.reader r.others r.writer.made r.reader.seen id writer r.rule.notes_agree.each_note (ap (λ l. get_elem? l id) (sym r.seats) ∙ at) in
      let both : View = Settled (writer_stepped writer) reader in
      let seats : set s.views id both ≡ both ∷ Reads r.reader ∷ r.others =
      ap (λ l. set l id both) r.seats ∙ (ap (λ k. set (seats_of r.settled r.writer r.reader r.others) k both) found.0 ∙ ap (λ b. set (seats_of b r.writer r.reader r.others) 0 both) found.2) in
      let reader_at = reader_beside (writer_stepped writer) r.reader reader r.others r.writer.made r.reader.seen other both refl refl r.rule.notes_agree.each_note (ap (λ l. get_elem? l other) (sym seats) ∙ there) in
      let rule = subst (λ (z : WriterState × ReaderState). Rule (length row) s.words z.0 z.1 r.others) (λ k. (found.1 k, reader_at.1 k)) r.rule in
      inr record {
        writer = writer_stepped writer;
        reader = reader;
        others = r.others;
        settled = true;
        seats = ap (λ l. set l other Spent) seats ∙ ap (λ j. set (both ∷ Reads r.reader ∷ r.others) j Spent) reader_at.0;
        rule = steps_of_ends (length row) s.words writer reader r.others rule (writer.steps + 1) reader.steps;
      }

pub notes_of_writer : (row : List ℕ) (id : ℕ) (view : View) → view ≡ Writes (writer_in view) → Splits (Kept row) id view (noted_left view) (noted_right view)
notes_of_writer row id view is = subst (λ v. Splits (Kept row) id v (noted_left v) (noted_right v)) (sym is) (writer_notes row id (writer_in view))

pub notes_of_reader : (row : List ℕ) (id : ℕ) (view : View) → view ≡ Reads (reader_in view) → Splits (Kept row) id view (noted_left view) (noted_right view)
notes_of_reader row id view is = subst (λ v. Splits (Kept row) id v (noted_left v) (noted_right v)) (sym is) (reader_notes row id (reader_in view))

pub copies_note : (row : List ℕ) (id : ℕ) (view : View) → view ≡ Notes (note_in view) → Splits (Kept row) id view (noted_left view) (noted_right view)
copies_note row id view is = subst (λ v. Splits (Kept row) id v (noted_left v) (noted_right v)) (sym is) (note_copies row id (note_in view))

pub tells : (row : List ℕ) (id other : ℕ) (view note : View) → view ≡ Reads (reader_in view) → note ≡ Notes (note_in note) → (reader_in view).phase ≡ Idle → Joins (Kept row) id view other note (told_both view note) Spent
tells row id other view note is note_is idle =
    subst (λ (z : View × View). Joins (Kept row) id z.0 other z.1 (told_both view note) Spent) (λ k. (sym is k, sym note_is k)) (tells_reader row id other (reader_in view) (note_in note) idle)

pub settles : (row : List ℕ) (id other : ℕ) (view reader : View) → view ≡ Writes (writer_in view) → reader ≡ Reads (reader_in reader) → Joins (Kept row) id view other reader (settled_both view reader) Spent
settles row id other view reader is reader_is =
    subst (λ (z : View × View). Joins (Kept row) id z.0 other z.1 (settled_both view reader) Spent) (λ k. (sym is k, sym reader_is k)) (settles_ends row id other (writer_in view) (reader_in reader))
