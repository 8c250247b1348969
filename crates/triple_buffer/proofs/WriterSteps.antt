-- The writer's steps keep the rule.
use Rattle.std.proofs.Common.{◌≡◌, ℕ, ◌^◌, ◌<◌, List, [], ◌∷◌, ◌++◌, length, set, sym, refl, ap, ◌∙◌, subst, arith, length-append, length-set}
use Rattle.std.specs.Prelude.{slice_index}
use Rattle.std.proofs.lemmas.List.{get_or-set_other, get_or-set_same}
use mathlib.Core.Logic.{dite}
use mathlib.Core.Option.{none}
use native.Mathlib.Decide.{ℕ_discrete}
use Rattle.atomic_table.specs.Table.{step, Allows}
use Rattle.atomic_table.proofs.Lists.{at_last}
use Rattle.audio_handoff.specs.Cell.{Pair}
use Rattle.triple_buffer.specs.Word.{word_of, number_in, fresh_in, back_in}
use Rattle.triple_buffer.specs.Views.{writer_in, after_store, after_show}
use Rattle.triple_buffer.specs.Rule.{word_at, Begins, IsNoteOf, Rule, Kept}
use Rattle.triple_buffer.specs.Steps.{Sat, Stored, Shown}
use Rattle.triple_buffer.specs.declared.views.View.{View}
use Rattle.triple_buffer.specs.declared.views.View.TheVariants.{Opens, Writes, Reads, Notes, Settled, Spent}
use Rattle.triple_buffer.specs.declared.views.WriterState.{WriterState}
use Rattle.triple_buffer.specs.declared.views.ReaderState.{ReaderState}
use Rattle.audio_handoff.proofs.CellLists.{made_longer}
use Rattle.triple_buffer.proofs.RowLists.{word_fits, begins_none, begins_at_state, begins_elsewhere, begins_before, begins_more, holds_at_state, holds_elsewhere, holds_longer}
use Rattle.triple_buffer.proofs.SeatFinds.{writer_step}

store_keeps : (w i x : ℕ) (words : List ℕ) (writer : WriterState) (reader : ReaderState) (others : List View) → Rule w words writer reader others → length writer.stored ≡ i → i < w
    → Rule w (set words (word_at w writer.place i) x) (after_store writer x) reader others
store_keeps w i x words writer reader others r long inside =
    let q : ℕ = writer.place in
    let a = r.rows_are_apart in
    let parts = r.parts_agree in
    let wide = r.wide in
    let n = word_fits w q i a.writer_fits inside in record {
      rows = record {
        wide = length-set words (word_at w q i) x ∙ r.wide;
        state = r.state;
        is_state = get_or-set_other words (word_at w q i) 0 x 0 (λ e. omega arith) ∙ r.is_state;
        rows_are_apart = a;
        back_is_made = holds_elsewhere w words writer.made x _ q i _ (λ e. a.writer_from_back (sym e)) inside r.back_is_made;
        own_is_made = holds_elsewhere w words writer.made x _ q i _ (λ e. a.writer_from_reader (sym e)) inside r.own_is_made;
        newest = r.newest;
        numbers_fit = r.numbers_fit;
      };
      saw_new = r.saw_new;
      parts_agree = record {
        stored_begins = begins_more w (set words (word_at w q i) x) x q i writer.stored long inside (get_or-set_same words (word_at w q i) x 0 (omega arith))
            (begins_before w words x q i writer.stored (omega arith) parts.stored_begins);
        loaded_begins = begins_elsewhere w words x _ q i reader.loaded (λ e. a.writer_from_reader (sym e)) inside parts.loaded_begins;
        none_outside = parts.none_outside;
      };
      reads_agree = r.reads_agree;
      notes_agree = r.notes_agree;
    }

pub stores : (row : List ℕ) (slots id i x : ℕ) (me : Sat) (writer : WriterState) (w place : ℕ) → length row ≡ w → me.0 ≡ Writes writer → writer.place ≡ place → length writer.stored ≡ i → i < w
    → Allows (Kept row) slots id me (word_at w place i) (λ _. x) (λ _. Stored (step slots (word_at w place i) x 0 none) me x)
stores row slots id i x me writer w place wide is at long inside =
    writer_step row slots id (word_at w place i) (λ _. x) me writer (λ _. Stored (step slots (word_at w place i) x 0 none) me x) is
    (λ words reader others r. (
      after_store writer x,
      subst (λ (z : ℕ × ℕ). Rule (length row) (set words (word_at z.0 z.1 i) x) (after_store writer x) reader others) (λ k. (wide k, at k)) (store_keeps (length row) i x words writer reader others r long (omega arith)),
      (ap (λ v. Writes (after_store (writer_in v) x)) (sym is), refl),
    ))

notes_longer : (made : List (List ℕ)) (row : List ℕ) (seen : List Pair) (view : View) → IsNoteOf made seen view → IsNoteOf (made ++ row ∷ []) seen view
notes_longer made row seen (Notes note) h = let l = h.0 in (omega (arith, length-append made (row ∷ [])), h.1)
notes_longer made row seen Spent h = tt
notes_longer made row seen (Opens opening) h = h
notes_longer made row seen (Writes writer) h = h
notes_longer made row seen (Reads reader) h = h
notes_longer made row seen (Settled writer reader) h = h

show_keeps : (w new : ℕ) (words : List ℕ) (writer : WriterState) (reader : ReaderState) (others : List View) → Rule w words writer reader others → length writer.stored ≡ w → length writer.made < 2 ^ 60
    → new ≡ word_of (length writer.made) 1 writer.place → Rule w (set words 0 new) (after_show writer (slice_index words 0)) reader others
show_keeps w new words writer reader others r long room is =
    let a = r.rows_are_apart in
    let parts = r.parts_agree in
    let reads = r.reads_agree in
    let notes = r.notes_agree in
    let wide = r.wide in
    let at = r.is_state in
    let fits = a.writer_fits in
    let count = length-append writer.made (writer.stored ∷ []) in
    let place_is : back_in new ≡ writer.place = omega arith in
    let number_is : number_in new ≡ length writer.made = omega arith in
    let is_fresh : fresh_in new ≡ 1 = omega arith in
    let back_is : back_in r.state ≡ back_in (slice_index words 0) = ap back_in (sym at) in
    let newer : reader.number < length writer.made = dite (ℕ_discrete (fresh_in r.state) 1)
    (λ e. let n = r.newest.fresh e in omega arith)
    (λ ne. let n = r.newest.stale (omega arith) in let m = n.0 in omega arith) in record {
      rows = record {
        wide = length-set words 0 new ∙ r.wide;
        state = new;
        is_state = get_or-set_same words 0 new 0 (omega arith);
        rows_are_apart = record {
          writer_fits = subst (λ x. x < 3) back_is a.back_fits;
          back_fits = omega arith;
          reader_fits = a.reader_fits;
          writer_from_back = λ e. a.writer_from_back (sym place_is ∙ (sym e ∙ sym back_is));
          writer_from_reader = λ e. a.back_from_reader (back_is ∙ e);
          back_from_reader = λ e. a.writer_from_reader (sym place_is ∙ e);
        };
        back_is_made = record {
          row = writer.stored;
          is_made = at_last writer.made writer.stored (number_in new) (sym number_is);
          is_whole = long;
          begins = subst (λ x. Begins w (set words 0 new) x writer.stored) (sym place_is) (begins_at_state w words new writer.place writer.stored parts.stored_begins);
        };
        own_is_made = holds_longer w (set words 0 new) writer.made writer.stored reader.place reader.number (holds_at_state w words writer.made new reader.place reader.number r.own_is_made);
        newest = record { fresh = λ _. (omega arith, omega arith); stale = λ e. absurd (omega arith) };
        numbers_fit = omega arith;
      };
      saw_new = λ _. is_fresh;
      parts_agree = record {
        stored_begins = begins_none w (set words 0 new) _;
        loaded_begins = begins_at_state w words new reader.place reader.loaded parts.loaded_begins;
        none_outside = parts.none_outside;
      };
      reads_agree = record {
        pairs = record {
          seen_were_made = made_longer writer.made writer.stored reader.seen reads.seen_were_made;
          numbers_never_fall = reads.numbers_never_fall;
          none_is_newer = reads.none_is_newer;
        };
        looks_agree = record {
          looks_were_made = λ k look e. let l = reads.looks_were_made k look e in omega arith;
          looks_were_answered = reads.looks_were_answered;
          one_look_a_read = reads.one_look_a_read;
          one_look_more = reads.one_look_more;
        };
        met = reads.met;
      };
      notes_agree = record {
        told_was_made = let t = notes.told_was_made in omega arith;
        heard_was_read = notes.heard_was_read;
        each_note = λ k view e. notes_longer writer.made writer.stored reader.seen view (notes.each_note k view e);
      };
    }

pub shows : (row : List ℕ) (slots id new : ℕ) (me : Sat) (writer : WriterState) (w made place : ℕ) → length row ≡ w → me.0 ≡ Writes writer → length writer.stored ≡ w
    → length writer.made ≡ made → writer.place ≡ place → made < 2 ^ 60 → new ≡ word_of made 1 place → Allows (Kept row) slots id me 0 (λ _. new) (Shown (step slots 0 new 0 none) me)
shows row slots id new me writer w made place wide is long count at room new_is =
    writer_step row slots id 0 (λ _. new) me writer (Shown (step slots 0 new 0 none) me) is
    (λ words reader others r. (
      after_show writer (slice_index words 0),
      show_keeps (length row) new words writer reader others r (long ∙ sym wide) (omega arith) (new_is ∙ (λ k. word_of (sym count k) 1 (sym at k))),
      (
        ap (λ v. Writes (after_show (writer_in v) (slice_index words 0))) (sym is),
        refl,
        subst (λ x. back_in x < 3) (sym r.is_state) r.rows_are_apart.back_fits,
      ),
    ))
