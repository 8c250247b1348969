-- Where each kind of seat stands, so that a step of an end is a fact about words and lists alone.
use Rattle.std.proofs.Common.{◌≡◌, ℕ, zero, suc, Bool, true, false, List, [], ◌∷◌, length, set, sym, refl, ap, ◌∙◌, subst, inl, inr}
use Rattle.std.specs.Prelude.{slice_index}
use Rattle.std.proofs.lemmas.List.{set-get_or}
use mathlib.Core.Option.{some, some-injective, some-ne-none}
use lib.ListN.{get_elem?}
use Rattle.atomic_table.specs.Table.{State, keeps, Allows}
use Rattle.audio_handoff.specs.Cell.{Pair}
use Rattle.triple_buffer.specs.Rule.{IsNoteOf, Rule, seats_of, Opening, Kept}
use Rattle.triple_buffer.specs.Views.{writer_in, reader_in}
use Rattle.triple_buffer.specs.Steps.{Sat}
use Rattle.triple_buffer.specs.declared.views.View.{View}
use Rattle.triple_buffer.specs.declared.views.View.TheVariants.{Opens, Writes, Reads, Notes, Settled, Spent}
use Rattle.triple_buffer.specs.declared.views.WriterState.{WriterState}
use Rattle.triple_buffer.specs.declared.views.ReaderState.{ReaderState}
use Rattle.triple_buffer.specs.declared.views.NoteState.{NoteState}

abbrev AreNotes : List (List ℕ) → List Pair → List View → Type 0
AreNotes made seen others = (k : ℕ) (view : View) → get_elem? others k ≡ some view → IsNoteOf made seen view

pub opens_alone : (row : List ℕ) (id : ℕ) (view : View) → get_elem? (Opens row ∷ []) id ≡ some view → Opens row ≡ view
opens_alone row zero view at = some-injective (Opens row) view at
opens_alone row (suc id) view at = absurd (some-ne-none view (sym at))

pub opening_at : (row : List ℕ) (s : State (Unit {0}) View) (id : ℕ) (view : View) → Opening row s → get_elem? s.views id ≡ some view → Opens row ≡ view
opening_at row s id view o at = opens_alone row id view (ap (λ l. get_elem? l id) (sym o.seat) ∙ at)

pub find_writer : (settled : Bool) (writer : WriterState) (reader : ReaderState) (others : List View) (made : List (List ℕ)) (seen : List Pair) (id : ℕ) (found : WriterState) → AreNotes made seen others
    → get_elem? (seats_of settled writer reader others) id ≡ some (Writes found) → (id ≡ 0) × (writer ≡ found) × (settled ≡ false)
find_writer false writer reader others made seen zero found notes at = (refl, ap writer_in (some-injective (Writes writer) (Writes found) at), refl)
find_writer false writer reader others made seen (suc zero) found notes at = let e = some-injective (Reads reader) (Writes found) at in absurd (cc)
find_writer false writer reader others made seen (suc (suc k)) found notes at = absurd (notes k (Writes found) at)
find_writer true writer reader others made seen zero found notes at = let e = some-injective (Settled writer reader) (Writes found) at in absurd (cc)
find_writer true writer reader others made seen (suc zero) found notes at = let e = some-injective Spent (Writes found) at in absurd (cc)
find_writer true writer reader others made seen (suc (suc k)) found notes at = absurd (notes k (Writes found) at)

pub find_reader : (settled : Bool) (writer : WriterState) (reader : ReaderState) (others : List View) (made : List (List ℕ)) (seen : List Pair) (id : ℕ) (found : ReaderState) → AreNotes made seen others
    → get_elem? (seats_of settled writer reader others) id ≡ some (Reads found) → (id ≡ 1) × (reader ≡ found) × (settled ≡ false)
find_reader false writer reader others made seen zero found notes at = let e = some-injective (Writes writer) (Reads found) at in absurd (cc)
find_reader false writer reader others made seen (suc zero) found notes at = (refl, ap reader_in (some-injective (Reads reader) (Reads found) at), refl)
find_reader false writer reader others made seen (suc (suc k)) found notes at = absurd (notes k (Reads found) at)
find_reader true writer reader others made seen zero found notes at = let e = some-injective (Settled writer reader) (Reads found) at in absurd (cc)
find_reader true writer reader others made seen (suc zero) found notes at = let e = some-injective Spent (Reads found) at in absurd (cc)
find_reader true writer reader others made seen (suc (suc k)) found notes at = absurd (notes k (Reads found) at)

pub find_note : (settled : Bool) (writer : WriterState) (reader : ReaderState) (others : List View) (id : ℕ) (found : NoteState)
    → get_elem? (seats_of settled writer reader others) id ≡ some (Notes found) → (k : ℕ) × (id ≡ suc (suc k)) × (get_elem? others k ≡ some (Notes found))
find_note false writer reader others zero found at = let e = some-injective (Writes writer) (Notes found) at in absurd (cc)
find_note false writer reader others (suc zero) found at = let e = some-injective (Reads reader) (Notes found) at in absurd (cc)
find_note false writer reader others (suc (suc k)) found at = (k, refl, at)
find_note true writer reader others zero found at = let e = some-injective (Settled writer reader) (Notes found) at in absurd (cc)
find_note true writer reader others (suc zero) found at = let e = some-injective Spent (Notes found) at in absurd (cc)
find_note true writer reader others (suc (suc k)) found at = (k, refl, at)

pub find_settled : (settled : Bool) (writer : WriterState) (reader : ReaderState) (others : List View) (made : List (List ℕ)) (seen : List Pair) (id : ℕ) (w : WriterState) (r : ReaderState) → AreNotes made seen others
    → get_elem? (seats_of settled writer reader others) id ≡ some (Settled w r) → (writer ≡ w) × (reader ≡ r)
find_settled false writer reader others made seen zero w r notes at = let e = some-injective (Writes writer) (Settled w r) at in absurd (cc)
find_settled false writer reader others made seen (suc zero) w r notes at = let e = some-injective (Reads reader) (Settled w r) at in absurd (cc)
find_settled false writer reader others made seen (suc (suc k)) w r notes at = absurd (notes k (Settled w r) at)
find_settled true writer reader others made seen zero w r notes at = let e = some-injective (Settled writer reader) (Settled w r) at in (ap writer_in e, ap reader_in e)
find_settled true writer reader others made seen (suc zero) w r notes at = let e = some-injective Spent (Settled w r) at in absurd (cc)
find_settled true writer reader others made seen (suc (suc k)) w r notes at = absurd (notes k (Settled w r) at)

-- the rule doesn't care for the steps that the two ends took
pub steps_of_ends : (width : ℕ) (words : List ℕ) (writer : WriterState) (reader : ReaderState) (others : List View) → Rule width words writer reader others → (writer_steps reader_steps : ℕ)
    → Rule width words (record writer { steps = writer_steps }) (record reader { steps = reader_steps }) others
steps_of_ends width words writer reader others r writer_steps reader_steps = record {
  rows = r.rows;
  saw_new = r.saw_new;
  parts_agree = r.parts_agree;
  reads_agree = r.reads_agree;
  notes_agree = r.notes_agree;
}

-- a step that changes no word
pub unmoved : (width : ℕ) (words : List ℕ) (i : ℕ) (writer : WriterState) (reader : ReaderState) (others : List View) → Rule width words writer reader others → Rule width (set words i (slice_index words i)) writer reader others
unmoved width words i writer reader others = subst (λ l. Rule width l writer reader others) (sym (set-get_or words i 0))

-- a step of the writer, of which the rule below says what it changes
pub writer_step : (row : List ℕ) (slots id i : ℕ) (f : ℕ → ℕ) (me : Sat) (writer : WriterState) (then : ℕ → Sat → Type 0) → me.0 ≡ Writes writer
    → ((words : List ℕ) (reader : ReaderState) (others : List View) → Rule (length row) words writer reader others
    → (next : WriterState) × Rule (length row) (set words i (f (slice_index words i))) next reader others × then (slice_index words i) (Writes next, me.1))
    → Allows (Kept row) slots id me i f then
writer_step row slots id i f me writer then is turn s (inl o) long at small = let e = opening_at row s id (Writes writer) o (at ∙ ap some is) in absurd (cc)
writer_step row slots id i f me writer then is turn s (inr r) long at small =
    let found = find_writer r.settled r.writer r.reader r.others r.writer.made r.reader.seen id writer r.rule.notes_agree.each_note (ap (λ l. get_elem? l id) (sym r.seats) ∙ (at ∙ ap some is)) in
    let t = turn s.words r.reader r.others (subst (λ x. Rule (length row) s.words x r.reader r.others) found.1 r.rule) in (
      Writes t.0,
      keeps,
      tt,
      inr record {
        writer = t.0;
        reader = r.reader;
        others = r.others;
        settled = false;
        seats = ap (λ l. set l id (Writes t.0)) r.seats
            ∙ (ap (λ k. set (seats_of r.settled r.writer r.reader r.others) k (Writes t.0)) found.0 ∙ ap (λ b. set (seats_of b r.writer r.reader r.others) 0 (Writes t.0)) found.2);
        rule = t.1;
      },
      t.2,
    )

pub reader_step : (row : List ℕ) (slots id i : ℕ) (f : ℕ → ℕ) (me : Sat) (reader : ReaderState) (then : ℕ → Sat → Type 0) → me.0 ≡ Reads reader
    → ((words : List ℕ) (writer : WriterState) (others : List View) → Rule (length row) words writer reader others
    → (next : ReaderState) × Rule (length row) (set words i (f (slice_index words i))) writer next others × then (slice_index words i) (Reads next, me.1))
    → Allows (Kept row) slots id me i f then
reader_step row slots id i f me reader then is turn s (inl o) long at small = let e = opening_at row s id (Reads reader) o (at ∙ ap some is) in absurd (cc)
reader_step row slots id i f me reader then is turn s (inr r) long at small =
    let found = find_reader r.settled r.writer r.reader r.others r.writer.made r.reader.seen id reader r.rule.notes_agree.each_note (ap (λ l. get_elem? l id) (sym r.seats) ∙ (at ∙ ap some is)) in
    let t = turn s.words r.writer r.others (subst (λ x. Rule (length row) s.words r.writer x r.others) found.1 r.rule) in (
      Reads t.0,
      keeps,
      tt,
      inr record {
        writer = r.writer;
        reader = t.0;
        others = r.others;
        settled = false;
        seats = ap (λ l. set l id (Reads t.0)) r.seats
            ∙ (ap (λ k. set (seats_of r.settled r.writer r.reader r.others) k (Reads t.0)) found.0 ∙ ap (λ b. set (seats_of b r.writer r.reader r.others) 1 (Reads t.0)) found.2);
        rule = t.1;
      },
      t.2,
    )

pub find_opens : (settled : Bool) (writer : WriterState) (reader : ReaderState) (others : List View) (made : List (List ℕ)) (seen : List Pair) (id : ℕ) (row : List ℕ) → AreNotes made seen others
    → get_elem? (seats_of settled writer reader others) id ≡ some (Opens row) → ⊥
find_opens false writer reader others made seen zero row notes at = let e = some-injective (Writes writer) (Opens row) at in cc
find_opens false writer reader others made seen (suc zero) row notes at = let e = some-injective (Reads reader) (Opens row) at in cc
find_opens false writer reader others made seen (suc (suc k)) row notes at = notes k (Opens row) at
find_opens true writer reader others made seen zero row notes at = let e = some-injective (Settled writer reader) (Opens row) at in cc
find_opens true writer reader others made seen (suc zero) row notes at = let e = some-injective Spent (Opens row) at in cc
find_opens true writer reader others made seen (suc (suc k)) row notes at = notes k (Opens row) at
