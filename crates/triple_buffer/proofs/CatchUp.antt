-- A look that found the back row new, and the swap after it.
use Rattle.std.proofs.Common.{◌≡◌, ℕ, ◌≤◌, [], ◌∷◌, ◌++◌, length, refl, sym, ap, ◌∙◌, subst, inr, arith}
use Rattle.atomic_table.specs.Table.{Step}
use Rattle.atomic_table.proofs.Lists.{at_last}
use Rattle.triple_buffer.specs.Word.{number_in, back_in}
use Rattle.triple_buffer.specs.Views.{reader_in, after_new_look, after_turn}
use Rattle.triple_buffer.specs.Rule.{AllAtMost}
use Rattle.triple_buffer.specs.Steps.{Sat, Turned}
use Rattle.triple_buffer.specs.Tokens.{RestsAsReader, HasCaughtUp}
use Rattle.triple_buffer.specs.declared.views.View.TheVariants.{Reads}
use Rattle.triple_buffer.specs.declared.views.ReaderState.{ReaderState}

pub caught_up : (before mid after : Sat) (place number looked found : ℕ) (st : Step (Unit {0})) → RestsAsReader place number before → mid.0 ≡ Reads (after_new_look (reader_in before.0) looked) → mid.1 ≡ before.1
    → (reader_in before.0).number ≤ number_in looked → (reader_in before.0).told ≤ number_in looked → Turned st mid found after → HasCaughtUp before after (back_in found) (number_in found)
caught_up before mid after place number looked found st rests look bare not_before_last not_before_told turned =
    let e : ReaderState = reader_in before.0 in
    let x : ReaderState = after_turn (after_new_look e looked) found in
    let now : after.0 ≡ Reads x = turned.0 ∙ ap (λ v. Reads (after_turn (reader_in v) found)) look in
    let view : reader_in after.0 ≡ x = ap reader_in now in
    let met : AllAtMost (e.looks ++ number_in looked ∷ []) (number_in found) = subst (λ v. AllAtMost (reader_in v).looks (number_in found)) look turned.6 in record {
      is = now ∙ sym (ap Reads view);
      place_is = ap (λ (r : ReaderState). r.place) view;
      place_fits = turned.2;
      number_is = ap (λ (r : ReaderState). r.number) view;
      number_fits = turned.3;
      loading = ap (λ (r : ReaderState). r.phase) view;
      none_loaded = ap (λ (r : ReaderState). r.loaded) view ∙ rests.none_loaded;
      seen = ap (λ (r : ReaderState). r.seen) view;
      look = number_in looked;
      looks = ap (λ (r : ReaderState). r.looks) view;
      look_is_not_before_last = not_before_last;
      look_is_not_before_told = not_before_told;
      look_is_met = met (length e.looks) (number_in looked) (at_last e.looks (number_in looked) (length e.looks) refl);
      told = ap (λ (r : ReaderState). r.told) view;
      told_is_met = subst (λ v. (reader_in v).told ≤ number_in found) look turned.5;
      never_falls = subst (λ v. (reader_in v).number ≤ number_in found) look turned.4;
      steps = let s = ap (λ (r : ReaderState). r.steps) view in inr (omega arith);
      bare = turned.1 ∙ bare;
    }
