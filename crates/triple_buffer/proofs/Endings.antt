-- What the words of a closed table say, where its last state has both ends in one hand.
use Rattle.std.proofs.Common.{◌≡◌, ◌≢◌, ℕ, ◌<◌, List, length, sym, ap, ◌∙◌, subst, inl, inr, arith}
use Rattle.std.specs.Prelude.{slice_index}
use mathlib.Core.Logic.{dite}
use mathlib.Core.Option.{some}
use native.Mathlib.Decide.{ℕ_discrete}
use lib.ListN.{get_elem?}
use Rattle.atomic_table.specs.Table.{Final, Seen}
use Rattle.audio_handoff.specs.Cell.{IsMade, IsLast, IsLawful}
use Rattle.triple_buffer.specs.Word.{number_in, fresh_in, back_in}
use Rattle.triple_buffer.specs.Rule.{word_at, HoldsMade, Rule, Kept}
use Rattle.triple_buffer.specs.declared.views.View.{View}
use Rattle.triple_buffer.specs.declared.views.View.TheVariants.{Settled}
use Rattle.triple_buffer.specs.declared.views.WriterState.{WriterState}
use Rattle.triple_buffer.specs.declared.views.ReaderState.{ReaderState}
use Rattle.triple_buffer.specs.declared.views.Phase.TheVariants.{Idle}
use Rattle.triple_buffer.proofs.RowLists.{loaded_whole}
use Rattle.triple_buffer.proofs.SeatFinds.{opening_at, find_settled}

pub closes : (row words : List ℕ) (slots : List (Unit {0})) (id : ℕ) (view : View) (writer : WriterState) (reader : ReaderState) → Final (Seen (Kept row) id view) words slots → view ≡ Settled writer reader
    → (others : List View) × Rule (length row) words writer reader others
closes row words slots id view writer reader (s, (inl o, at), same, long, free) is = let e = opening_at row s id (Settled writer reader) o (at ∙ ap some is) in absurd (cc)
closes row words slots id view writer reader (s, (inr r, at), same, long, free) is =
    let found = find_settled r.settled r.writer r.reader r.others r.writer.made r.reader.seen id writer reader r.rule.notes_agree.each_note (ap (λ l. get_elem? l id) (sym r.seats) ∙ (at ∙ ap some is)) in (
      r.others,
      subst (λ (z : List ℕ × (WriterState × ReaderState)). Rule (length row) z.0 z.1.0 z.1.1 r.others) (λ k. (same k, (found.0 k, found.1 k))) r.rule,
    )

module _ (w : ℕ) (words : List ℕ) (writer : WriterState) (reader : ReaderState) (others : List View) (r : Rule w words writer reader others) where
  pub lawful_at_end : reader.phase ≡ Idle → IsLawful writer.made reader.seen reader.looks reader.told
  lawful_at_end idle = record {
    seen_were_made = r.reads_agree.seen_were_made;
    numbers_never_fall = r.reads_agree.numbers_never_fall;
    one_look_a_read = r.reads_agree.one_look_a_read idle;
    looks_were_answered = r.reads_agree.looks_were_answered;
    told_was_made = r.notes_agree.told_was_made;
    numbers_fit = r.numbers_fit;
  }

  copy_is_made : (place number : ℕ) (copy : List ℕ) → HoldsMade w words writer.made place number → length copy ≡ w → ((i : ℕ) → i < w → slice_index copy i ≡ slice_index words (word_at w place i)) → IsMade writer.made number copy
  copy_is_made place number copy held long same = loaded_whole w words writer.made place number copy held long record { is_no_longer = omega arith; each = λ i b. sym (same i (omega arith)) }

  fresh_is_last : (state number place : ℕ) (copy : List ℕ) → slice_index words 0 ≡ state → fresh_in state ≡ 1 → number ≡ number_in state → place ≡ back_in state → length copy ≡ w
      → ((i : ℕ) → i < w → slice_index copy i ≡ slice_index words (word_at w place i)) → IsLast writer.made number copy
  fresh_is_last state number place copy at is_fresh number_is place_is long same =
      let here : state ≡ r.state = sym at ∙ r.is_state in
      let last = (r.newest.fresh (ap fresh_in (sym here) ∙ is_fresh)).0 in
      let held = subst (λ (z : ℕ × ℕ). HoldsMade w words writer.made z.0 z.1) (λ k. ((ap back_in (sym here) ∙ sym place_is) k, (ap number_in (sym here) ∙ sym number_is) k)) r.back_is_made in
      let shown : number_in state ≡ number_in r.state = ap number_in here in
      record { is_made = copy_is_made place number copy held long same; nothing_later = omega arith }

  own_is_last_at_end : (state number place : ℕ) (copy : List ℕ) → slice_index words 0 ≡ state → fresh_in state ≢ 1 → number ≡ reader.number → place ≡ reader.place → length copy ≡ w
      → ((i : ℕ) → i < w → slice_index copy i ≡ slice_index words (word_at w place i)) → IsLast writer.made number copy
  own_is_last_at_end state number place copy at not number_is place_is long same =
      let here : fresh_in state ≡ fresh_in r.state = ap fresh_in (sym at ∙ r.is_state) in
      let last = (r.newest.stale (omega arith)).0 in
      let held = subst (λ (z : ℕ × ℕ). HoldsMade w words writer.made z.0 z.1) (λ k. (sym place_is k, sym number_is k)) r.own_is_made in
      record { is_made = copy_is_made place number copy held long same; nothing_later = omega arith }

  module _ (state own_place own_number place number : ℕ) (at : slice_index words 0 ≡ state) (own_place_is : own_place ≡ reader.place) (own_number_is : own_number ≡ reader.number)
      (fresh : fresh_in state ≡ 1 → (place ≡ back_in state) × (number ≡ number_in state)) (own : fresh_in state ≢ 1 → (place ≡ own_place) × (number ≡ own_number)) where
    pub place_at_end : place < 3
    place_at_end = dite (ℕ_discrete (fresh_in state) 1)
        (λ is_fresh. subst (λ p. p < 3) (sym ((fresh is_fresh).0 ∙ ap back_in (sym at ∙ r.is_state))) r.rows_are_apart.back_fits)
        (λ not. subst (λ p. p < 3) (sym ((own not).0 ∙ own_place_is)) r.rows_are_apart.reader_fits)

    pub last_at_end : (copy : List ℕ) → length copy ≡ w → ((i : ℕ) → i < w → slice_index copy i ≡ slice_index words (word_at w place i)) → IsLast writer.made number copy
    last_at_end copy long same = dite (ℕ_discrete (fresh_in state) 1)
        (λ is_fresh. fresh_is_last state number place copy at is_fresh (fresh is_fresh).1 (fresh is_fresh).0 long same)
        (λ not. own_is_last_at_end state number place copy at not ((own not).1 ∙ own_number_is) ((own not).0 ∙ own_place_is) long same)
