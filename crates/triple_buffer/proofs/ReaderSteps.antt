-- The reader's steps keep the rule.
use Rattle.std.proofs.Common.{◌≡◌, ◌≢◌, ℕ, ◌+◌, ◌^◌, ◌<◌, ◌≤◌, List, [], ◌∷◌, ◌++◌, length, set, sym, refl, ap, ◌∙◌, subst, inl, ⊎_elim, arith, length-append, length-set, le_refl}
use Rattle.std.specs.Prelude.{slice_index}
use Rattle.std.proofs.lemmas.List.{get_or-set_same}
use mathlib.Core.Logic.{dite}
use mathlib.Core.Option.{some, none}
use native.Mathlib.Decide.{ℕ_discrete}
use lib.ListN.{get_elem?}
use Rattle.atomic_table.specs.Table.{step, Allows}
use Rattle.audio_handoff.specs.Cell.{Pair, Grows}
use Rattle.triple_buffer.specs.Word.{word_of, number_in, fresh_in, back_in}
use Rattle.triple_buffer.specs.Views.{reader_in, after_new_look, after_old_look, after_turn, after_load, after_last_load, reader_stepped}
use Rattle.triple_buffer.specs.Rule.{word_at, Begins, HoldsMade, AreApart, KnowsNewest, PartsAgree, ReadsAgree, IsNoteOf, NotesAgree, Rule, Kept}
use Rattle.triple_buffer.specs.Steps.{Sat, Looked, Turned, Loaded, Finished, Checked}
use Rattle.triple_buffer.specs.declared.views.View.{View}
use Rattle.triple_buffer.specs.declared.views.View.TheVariants.{Opens, Writes, Reads, Notes, Settled, Spent}
use Rattle.triple_buffer.specs.declared.views.WriterState.{WriterState}
use Rattle.triple_buffer.specs.declared.views.ReaderState.{ReaderState}
use Rattle.triple_buffer.specs.declared.views.Phase.TheVariants.{Idle, SawNew, Loading}
use Rattle.audio_handoff.proofs.CellLists.{grows_by, made_pair, all_at_most_more, newest_pair, never_fall_more, answered_more, looked_more, snoc_at}
use Rattle.triple_buffer.proofs.RowLists.{begins_none, begins_at_state, begins_more, holds_at_state, loaded_whole}
use Rattle.triple_buffer.proofs.SeatFinds.{steps_of_ends, unmoved, reader_step}

below_count : (e : ReaderState) (writer : WriterState) (x : ℕ) → x < length writer.made → ((k : ℕ) (look : ℕ) → get_elem? e.looks k ≡ some look → look < length writer.made)
    → (k : ℕ) (look : ℕ) → get_elem? (e.looks ++ x ∷ []) k ≡ some look → look < length writer.made
below_count e writer x fits h k look at =
    ⊎_elim (h k look) (λ (t : (k ≡ length e.looks) × (x ≡ look)). let is = t.1 in omega arith) (snoc_at e.looks x look k at)

new_look_keeps : (w : ℕ) (words : List ℕ) (writer : WriterState) (reader : ReaderState) (others : List View) → Rule w words writer reader others → reader.phase ≡ Idle → fresh_in (slice_index words 0) ≡ 1
    → Rule w words writer (after_new_look reader (slice_index words 0)) others
new_look_keeps w words writer reader others r idle is_fresh =
    let parts = r.parts_agree in
    let reads = r.reads_agree in
    let at = r.is_state in
    let fresh : fresh_in r.state ≡ 1 = ap fresh_in (sym at) ∙ is_fresh in
    let newest = (r.newest.fresh fresh).0 in
    let same : length reader.looks ≡ length reader.seen = reads.one_look_a_read idle in record {
      rows = r.rows;
      saw_new = λ _. fresh;
      parts_agree = record { stored_begins = parts.stored_begins; loaded_begins = parts.loaded_begins; none_outside = λ _. parts.none_outside (λ l. absurd (cc)) };
      reads_agree = record {
        pairs = reads.pairs;
        looks_agree = record {
          looks_were_made = below_count reader writer (number_in (slice_index words 0)) (omega arith) reads.looks_were_made;
          looks_were_answered = looked_more reader.looks reader.seen (number_in (slice_index words 0)) same reads.looks_were_answered;
          one_look_a_read = λ l. absurd (cc);
          one_look_more = λ _. omega (arith, length-append reader.looks (number_in (slice_index words 0) ∷ []));
        };
        met = record {
          told_is_met = λ l. absurd (cc);
          looks_are_met = λ l. absurd (cc);
        };
      };
      notes_agree = r.notes_agree;
    }

-- a look at a new row is no older than the reader's row, nor than a row told of
new_look_tells : (w : ℕ) (words : List ℕ) (writer : WriterState) (reader : ReaderState) (others : List View) → Rule w words writer reader others → fresh_in (slice_index words 0) ≡ 1
    → (reader.number ≤ number_in (slice_index words 0)) × (reader.told ≤ number_in (slice_index words 0))
new_look_tells w words writer reader others r is_fresh =
    let newest = subst (λ n. fresh_in n ≡ 1 → (number_in n + 1 ≡ length writer.made) × (reader.number < number_in n)) (sym r.is_state) r.newest.fresh is_fresh in
    let last = newest.0 in
    let more = newest.1 in
    let told = r.notes_agree.told_was_made in
    (omega arith, omega arith)

module _ (w : ℕ) (words : List ℕ) (writer : WriterState) (reader : ReaderState) (others : List View) (r : Rule w words writer reader others) (idle : reader.phase ≡ Idle) (not_fresh : fresh_in (slice_index words 0) ≢ 1) where
  own_is_last : reader.number + 1 ≡ length writer.made
  own_is_last =
      let at = r.is_state in
      let same : fresh_in (slice_index words 0) ≡ fresh_in r.state = ap fresh_in at in
      (r.newest.stale (omega arith)).0

  told_by_old_look : reader.told ≤ reader.number
  told_by_old_look = let last = own_is_last in let told = r.notes_agree.told_was_made in omega arith

  old_look_keeps : Rule w words writer (after_old_look reader) others
  old_look_keeps =
      let parts = r.parts_agree in
      let reads = r.reads_agree in
      let last = own_is_last in
      let same : length reader.looks ≡ length reader.seen = reads.one_look_a_read idle in record {
        rows = r.rows;
        saw_new = λ l. absurd (cc);
        parts_agree = record { stored_begins = parts.stored_begins; loaded_begins = parts.loaded_begins; none_outside = λ l. absurd (l refl) };
        reads_agree = record {
          pairs = reads.pairs;
          looks_agree = record {
            looks_were_made = below_count reader writer reader.number (omega arith) reads.looks_were_made;
            looks_were_answered = looked_more reader.looks reader.seen reader.number same reads.looks_were_answered;
            one_look_a_read = λ l. absurd (cc);
            one_look_more = λ _. omega (arith, length-append reader.looks (reader.number ∷ []));
          };
          met = record {
            told_is_met = λ _. told_by_old_look;
            looks_are_met = λ _. all_at_most_more reader.looks reader.number reader.number (le_refl reader.number) (λ k look e. let l = reads.looks_were_made k look e in omega arith);
          };
        };
        notes_agree = r.notes_agree;
      }

pub looks : (row : List ℕ) (slots id : ℕ) (me : Sat) (reader : ReaderState) → me.0 ≡ Reads reader → reader.phase ≡ Idle → Allows (Kept row) slots id me 0 (λ n. n) (Looked (step slots 0 0 0 none) me)
looks row slots id me reader is idle =
    let view = λ (v : View). reader_in v in
    reader_step row slots id 0 (λ n. n) me reader (Looked (step slots 0 0 0 none) me) is
    (λ words writer others r. dite (ℕ_discrete (fresh_in (slice_index words 0)) 1)
    (λ is_fresh. (
      after_new_look reader (slice_index words 0),
      unmoved (length row) words 0 writer (after_new_look reader (slice_index words 0)) others (new_look_keeps (length row) words writer reader others r idle is_fresh),
      (
        refl,
        (λ _. (
          ap (λ v. Reads (after_new_look (reader_in v) (slice_index words 0))) (sym is),
          subst (λ v. (reader_in v).number ≤ number_in (slice_index words 0)) (sym is) (new_look_tells (length row) words writer reader others r is_fresh).0,
          subst (λ v. (reader_in v).told ≤ number_in (slice_index words 0)) (sym is) (new_look_tells (length row) words writer reader others r is_fresh).1,
        )),
        (λ not. absurd (not is_fresh)),
      ),
    ))
    (λ not. (
      after_old_look reader,
      unmoved (length row) words 0 writer (after_old_look reader) others (old_look_keeps (length row) words writer reader others r idle not),
      (
        refl,
        (λ is_fresh. absurd (not is_fresh)),
        (λ _. (
          ap (λ v. Reads (after_old_look (reader_in v))) (sym is),
          subst (λ v. (reader_in v).told ≤ (reader_in v).number) (sym is) (told_by_old_look (length row) words writer reader others r idle not),
        )),
      ),
    )))

module _ (w new : ℕ) (words : List ℕ) (writer : WriterState) (reader : ReaderState) (others : List View) (r : Rule w words writer reader others) (saw : reader.phase ≡ SawNew) where
  back_is_last : (number_in (slice_index words 0) + 1 ≡ length writer.made) × (reader.number < number_in (slice_index words 0))
  back_is_last = subst (λ n. (number_in n + 1 ≡ length writer.made) × (reader.number < number_in n)) (sym r.is_state) (r.newest.fresh (r.saw_new saw))

  turn_tells : (back_in (slice_index words 0) < 3) × (number_in (slice_index words 0) < 2 ^ 60) × (reader.number ≤ number_in (slice_index words 0)) × (reader.told ≤ number_in (slice_index words 0))
      × Rattle.triple_buffer.specs.Rule.AllAtMost reader.looks (number_in (slice_index words 0))
  turn_tells = let b = back_is_last in let fits = r.numbers_fit in let told = r.notes_agree.told_was_made in let last = b.0 in let more = b.1 in (
    subst (λ n. back_in n < 3) (sym r.is_state) r.rows_are_apart.back_fits,
    omega arith,
    omega arith,
    omega arith,
    λ k look e. let l = r.reads_agree.looks_were_made k look e in omega arith,
  )

  turn_keeps : reader.number < 2 ^ 60 → new ≡ word_of reader.number 0 reader.place → Rule w (set words 0 new) writer (after_turn reader (slice_index words 0)) others
  turn_keeps room is =
      let a = r.rows_are_apart in
      let parts = r.parts_agree in
      let reads = r.reads_agree in
      let wide = r.wide in
      let fits = a.reader_fits in
      let b = back_is_last in
      let tells = turn_tells in
      let last = b.0 in
      let more = b.1 in
      let place_is : back_in new ≡ reader.place = omega arith in
      let number_is : number_in new ≡ reader.number = omega arith in
      let is_stale : fresh_in new ≡ 0 = omega arith in
      let at : r.state ≡ slice_index words 0 = sym r.is_state in
      let none_loaded : reader.loaded ≡ [] = parts.none_outside (λ l. absurd (cc)) in record {
        rows = record {
          wide = length-set words 0 new ∙ r.wide;
          state = new;
          is_state = get_or-set_same words 0 new 0 (omega arith);
          rows_are_apart = record {
            writer_fits = a.writer_fits;
            back_fits = omega arith;
            reader_fits = tells.0;
            writer_from_back = λ e. a.writer_from_reader (e ∙ place_is);
            writer_from_reader = λ e. a.writer_from_back (e ∙ sym (ap back_in at));
            back_from_reader = λ e. a.back_from_reader (ap back_in at ∙ (sym e ∙ place_is));
          };
          back_is_made = subst (λ (z : ℕ × ℕ). HoldsMade w (set words 0 new) writer.made z.0 z.1) (λ k. (sym place_is k, sym number_is k)) (holds_at_state w words writer.made new reader.place reader.number r.own_is_made);
          own_is_made = subst (λ n. HoldsMade w (set words 0 new) writer.made (back_in n) (number_in n)) at (holds_at_state w words writer.made new _ _ r.back_is_made);
          newest = record { fresh = λ e. absurd (omega arith); stale = λ _. (last, inl (omega arith)) };
          numbers_fit = r.numbers_fit;
        };
        saw_new = λ l. absurd (cc);
        parts_agree = record {
          stored_begins = begins_at_state w words new writer.place writer.stored parts.stored_begins;
          loaded_begins = subst (Begins w (set words 0 new) (back_in (slice_index words 0))) (sym none_loaded) (begins_none w (set words 0 new) _);
          none_outside = λ l. absurd (l refl);
        };
        reads_agree = record {
          pairs = record {
            seen_were_made = reads.seen_were_made;
            numbers_never_fall = reads.numbers_never_fall;
            none_is_newer = λ k pair e. let n = reads.none_is_newer k pair e in omega arith;
          };
          looks_agree = record {
            looks_were_made = reads.looks_were_made;
            looks_were_answered = reads.looks_were_answered;
            one_look_a_read = λ l. absurd (cc);
            one_look_more = λ _. reads.one_look_more (λ l. absurd (cc));
          };
          met = record {
            told_is_met = λ _. tells.3;
            looks_are_met = λ _. tells.4;
          };
        };
        notes_agree = r.notes_agree;
      }

pub turns : (row : List ℕ) (slots id new : ℕ) (me : Sat) (reader : ReaderState) (place number : ℕ) → me.0 ≡ Reads reader → reader.phase ≡ SawNew → reader.place ≡ place → reader.number ≡ number → number < 2 ^ 60
    → new ≡ word_of number 0 place → Allows (Kept row) slots id me 0 (λ _. new) (Turned (step slots 0 new 0 none) me)
turns row slots id new me reader place number is saw at count room new_is =
    reader_step row slots id 0 (λ _. new) me reader (Turned (step slots 0 new 0 none) me) is
    (λ words writer others r. let tells = turn_tells (length row) new words writer reader others r saw in (
      after_turn reader (slice_index words 0),
      turn_keeps (length row) new words writer reader others r saw (omega arith) (new_is ∙ (λ k. word_of (sym count k) 0 (sym at k))),
      (
        ap (λ v. Reads (after_turn (reader_in v) (slice_index words 0))) (sym is),
        refl,
        tells.0,
        tells.1,
        subst (λ v. (reader_in v).number ≤ number_in (slice_index words 0)) (sym is) tells.2,
        subst (λ v. (reader_in v).told ≤ number_in (slice_index words 0)) (sym is) tells.3,
        subst (λ v. Rattle.triple_buffer.specs.Rule.AllAtMost (reader_in v).looks (number_in (slice_index words 0))) (sym is) tells.4,
      ),
    ))

module _ (w i : ℕ) (words : List ℕ) (writer : WriterState) (reader : ReaderState) (others : List View) (r : Rule w words writer reader others) (loading : reader.phase ≡ Loading) (long : length reader.loaded ≡ i) where
  abbrev found : ℕ
  found = slice_index words (word_at w reader.place i)

  load_keeps : i < w → Rule w words writer (after_load reader found) others
  load_keeps inside =
      let parts = r.parts_agree in record {
        rows = r.rows;
        saw_new = r.saw_new;
        parts_agree = record {
          stored_begins = parts.stored_begins;
          loaded_begins = begins_more w words found reader.place i reader.loaded long inside refl parts.loaded_begins;
          none_outside = λ l. absurd (l loading);
        };
        reads_agree = r.reads_agree;
        notes_agree = r.notes_agree;
      }

  last_load_keeps : i + 1 ≡ w → Rule w words writer (after_last_load reader found) others
  last_load_keeps whole =
      let parts = r.parts_agree in
      let reads = r.reads_agree in
      let notes = r.notes_agree in
      let row = reader.loaded ++ found ∷ [] in
      let begins = begins_more w words found reader.place i reader.loaded long (omega arith) refl parts.loaded_begins in
      let is_row = loaded_whole w words writer.made reader.place reader.number row r.own_is_made (omega (arith, length-append reader.loaded (found ∷ []))) begins in
      let busy : reader.phase ≢ Idle = λ l. absurd (cc) in record {
        rows = r.rows;
        saw_new = λ l. absurd (cc);
        parts_agree = record { stored_begins = parts.stored_begins; loaded_begins = begins_none w words _; none_outside = λ _. refl };
        reads_agree = record {
          pairs = record {
            seen_were_made = made_pair writer.made reader.seen reader.number row is_row reads.seen_were_made;
            numbers_never_fall = never_fall_more reader.seen reader.number row reads.numbers_never_fall reads.none_is_newer;
            none_is_newer = newest_pair reader.seen reader.number row reads.none_is_newer;
          };
          looks_agree = record {
            looks_were_made = reads.looks_were_made;
            looks_were_answered = answered_more reader.looks reader.seen reader.number row (reads.looks_are_met loading) reads.looks_were_answered;
            one_look_a_read = λ _. let more = reads.one_look_more busy in omega (arith, length-append reader.seen ((reader.number, row) ∷ []));
            one_look_more = λ l. absurd (l refl);
          };
          met = record {
            told_is_met = λ l. absurd (cc);
            looks_are_met = λ l. absurd (cc);
          };
        };
        notes_agree = record {
          told_was_made = notes.told_was_made;
          heard_was_read = grows_by reader.heard reader.seen (reader.number, row) notes.heard_was_read;
          each_note = λ k view e. note_longer writer.made reader.seen (reader.number, row) view (notes.each_note k view e);
        };
      }
    where
      note_longer : (made : List (List ℕ)) (seen : List Pair) (pair : Pair) (view : View) → IsNoteOf made seen view → IsNoteOf made (seen ++ pair ∷ []) view
      note_longer made seen pair (Notes note) h = (h.0, grows_by note.seen seen pair h.1)
      note_longer made seen pair Spent h = tt
      note_longer made seen pair (Opens opening) h = h
      note_longer made seen pair (Writes writer) h = h
      note_longer made seen pair (Reads reader) h = h
      note_longer made seen pair (Settled writer reader) h = h

pub loads : (row : List ℕ) (slots id i : ℕ) (me : Sat) (reader : ReaderState) (w place : ℕ) → length row ≡ w → me.0 ≡ Reads reader → reader.place ≡ place → reader.phase ≡ Loading → length reader.loaded ≡ i → i < w
    → Allows (Kept row) slots id me (word_at w place i) (λ n. n) (Loaded (step slots (word_at w place i) 0 0 none) me)
loads row slots id i me reader w place wide is at loading long inside =
    reader_step row slots id (word_at w place i) (λ n. n) me reader (Loaded (step slots (word_at w place i) 0 0 none) me) is
    (λ words writer others r. let found = slice_index words (word_at w place i) in (
      after_load reader found,
      unmoved (length row) words (word_at w place i) writer (after_load reader found) others
          (subst (λ (z : ℕ × ℕ). Rule (length row) words writer (after_load reader (slice_index words (word_at z.0 z.1 i))) others) (λ k. (wide k, at k)) (load_keeps (length row) i words writer reader others r loading long (omega arith))),
      (ap (λ v. Reads (after_load (reader_in v) found)) (sym is), refl),
    ))

pub last_loads : (row : List ℕ) (slots id i : ℕ) (me : Sat) (reader : ReaderState) (w place : ℕ) → length row ≡ w → me.0 ≡ Reads reader → reader.place ≡ place → reader.phase ≡ Loading → length reader.loaded ≡ i → i + 1 ≡ w
    → Allows (Kept row) slots id me (word_at w place i) (λ n. n) (Finished (step slots (word_at w place i) 0 0 none) me)
last_loads row slots id i me reader w place wide is at loading long whole =
    reader_step row slots id (word_at w place i) (λ n. n) me reader (Finished (step slots (word_at w place i) 0 0 none) me) is
    (λ words writer others r. let found = slice_index words (word_at w place i) in (
      after_last_load reader found,
      unmoved (length row) words (word_at w place i) writer (after_last_load reader found) others
          (subst (λ (z : ℕ × ℕ). Rule (length row) words writer (after_last_load reader (slice_index words (word_at z.0 z.1 i))) others) (λ k. (wide k, at k)) (last_load_keeps (length row) i words writer reader others r loading long (whole ∙ sym wide))),
      (ap (λ v. Reads (after_last_load (reader_in v) found)) (sym is), refl),
    ))

pub checks : (row : List ℕ) (slots id : ℕ) (me : Sat) (reader : ReaderState) → me.0 ≡ Reads reader → Allows (Kept row) slots id me 0 (λ n. n) (Checked (step slots 0 0 0 none) me)
checks row slots id me reader is =
    reader_step row slots id 0 (λ n. n) me reader (Checked (step slots 0 0 0 none) me) is
    (λ words writer others r. (
      reader_stepped reader,
      unmoved (length row) words 0 writer (reader_stepped reader) others (steps_of_ends (length row) words writer reader others r writer.steps (reader.steps + 1)),
      (ap (λ v. Reads (reader_stepped (reader_in v))) (sym is), refl, subst (λ v. Grows (reader_in v).heard (reader_in v).seen) (sym is) r.notes_agree.heard_was_read),
    ))
