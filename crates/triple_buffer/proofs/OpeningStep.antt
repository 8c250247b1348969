-- The opening split makes the rule of the two ends out of three equal rows.
use Rattle.std.proofs.Common.{◌≡◌, ℕ, zero, suc, ◌+◌, false, List, [], ◌∷◌, ◌++◌, length, set, sym, refl, ap, ◌∙◌, subst, inl, inr, arith, length-append}
use Rattle.std.specs.Prelude.{slice_index}
use Rattle.std.proofs.Math.ListN.{get_or-append}
use Rattle.std.proofs.lemmas.List.{get_or-append-add}
use mathlib.Core.Option.{some, some-ne-none}
use lib.ListN.{get_elem?}
use Rattle.atomic_table.specs.Table.{Splits}
use Rattle.triple_buffer.specs.Views.{first_writer, first_reader, opened_left, opened_right}
use Rattle.triple_buffer.specs.Rule.{word_at, Begins, Rule, Kept}
use Rattle.triple_buffer.specs.declared.views.View.{View}
use Rattle.triple_buffer.specs.declared.views.View.TheVariants.{Opens, Writes, Reads}
use Rattle.audio_handoff.proofs.CellLists.{grows_none}
use Rattle.triple_buffer.proofs.RowLists.{begins_none}
use Rattle.triple_buffer.proofs.SeatFinds.{find_opens}

module _ (row : List ℕ) where
  abbrev thrice : List ℕ
  thrice = 1 ∷ ((row ++ row) ++ row)

  first_begins : Begins (length row) thrice 0 row
  first_begins = record {
    is_no_longer = omega arith;
    each = λ i b. let e : word_at (length row) 0 i ≡ suc i = omega arith in
        ap (λ k. slice_index thrice k) e ∙ (get_or-append (row ++ row) row 0 i (omega (arith, length-append row row)) ∙ get_or-append row row 0 i b);
  }

  second_begins : Begins (length row) thrice 1 row
  second_begins = record {
    is_no_longer = omega arith;
    each = λ i b. let e : word_at (length row) 1 i ≡ suc (length row + i) = omega arith in
        ap (λ k. slice_index thrice k) e ∙ (get_or-append (row ++ row) row 0 (length row + i) (omega (arith, length-append row row)) ∙ get_or-append-add row row i 0);
  }

  begins : Rule (length row) thrice (first_writer row) first_reader []
  begins = record {
    rows = record {
      wide = omega (arith, length-append (row ++ row) row, length-append row row);
      state = 1;
      is_state = refl;
      rows_are_apart = record {
        writer_fits = omega arith;
        back_fits = omega arith;
        reader_fits = omega arith;
        writer_from_back = λ e. omega arith;
        writer_from_reader = λ e. omega arith;
        back_from_reader = λ e. omega arith;
      };
      back_is_made = record { row = row; is_made = refl; is_whole = refl; begins = second_begins };
      own_is_made = record { row = row; is_made = refl; is_whole = refl; begins = first_begins };
      newest = record { fresh = λ e. absurd (omega arith); stale = λ _. (refl, inr (refl, refl)) };
      numbers_fit = omega arith;
    };
    saw_new = λ e. absurd (cc);
    parts_agree = record { stored_begins = begins_none (length row) thrice 2; loaded_begins = begins_none (length row) thrice 0; none_outside = λ _. refl };
    reads_agree = record {
      pairs = record {
        seen_were_made = λ k pair e. absurd (some-ne-none pair (sym e));
        numbers_never_fall = λ j k first second le e f. absurd (some-ne-none first (sym e));
        none_is_newer = λ k pair e. absurd (some-ne-none pair (sym e));
      };
      looks_agree = record {
        looks_were_made = λ k look e. absurd (some-ne-none look (sym e));
        looks_were_answered = λ k look pair e f. absurd (some-ne-none look (sym e));
        one_look_a_read = λ _. refl;
        one_look_more = λ busy. absurd (busy refl);
      };
      met = record {
        told_is_met = λ _. omega arith;
        looks_are_met = λ _ k look e. absurd (some-ne-none look (sym e));
      };
    };
    notes_agree = record { told_was_made = omega arith; heard_was_read = grows_none []; each_note = λ k view e. absurd (some-ne-none view (sym e)) };
  }

  at_zero : (id : ℕ) (view : View) → get_elem? (Opens row ∷ []) id ≡ some view → id ≡ 0
  at_zero zero view at = refl
  at_zero (suc id) view at = absurd (some-ne-none view (sym at))

  parts : (id : ℕ) → Splits (Kept row) id (Opens row) (Writes (first_writer row)) (Reads first_reader)
  parts id s (inl o) at =
      let zero_is = at_zero id (Opens row) (ap (λ l. get_elem? l id) (sym o.seat) ∙ at) in
      inr record {
        writer = first_writer row;
        reader = first_reader;
        others = [];
        settled = false;
        seats = ap (λ l. set l id (Writes (first_writer row)) ++ Reads first_reader ∷ []) o.seat ∙ ap (λ k. set (Opens row ∷ []) k (Writes (first_writer row)) ++ Reads first_reader ∷ []) zero_is;
        rule = subst (λ l. Rule (length row) l (first_writer row) first_reader []) (sym o.words) begins;
      }
  parts id s (inr r) at = absurd (find_opens r.settled r.writer r.reader r.others r.writer.made r.reader.seen id row r.rule.notes_agree.each_note (ap (λ l. get_elem? l id) (sym r.seats) ∙ at))

pub opens : (key row : List ℕ) (id : ℕ) (view : View) → key ≡ row → view ≡ Opens row → Splits (Kept key) id view (opened_left view) (opened_right view)
opens key row id view same is = subst (λ (z : List ℕ × View). Splits (Kept z.0) id z.1 (opened_left z.1) (opened_right z.1)) (λ k. (sym same k, sym is k)) (parts row id)
