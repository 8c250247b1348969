-- What the desk's reader keeps through its calls.
use Rattle.std.proofs.Common.{◌≡◌, ℕ, ◌≤◌, List, [], ◌∷◌, ◌++◌, sym, subst, arith}
use mathlib.Core.Option.{some}
use lib.ListN.{get_elem?}
use Rattle.audio_handoff.specs.Cell.{Pair, ReaderView, NumbersNeverFall, IsOneRead}
use Rattle.audio_handoff.proofs.CellLists.{newest_pair, never_fall_more}
use Rattle.link_shared.specs.Desk.{NoneIsNewer, RestsAsReader}

pub rests_after_read : (before after : ReaderView) (number : ℕ) (row : List ℕ) → RestsAsReader before → IsOneRead before after number row → after.number ≡ number → before.number ≤ number → RestsAsReader after
rests_after_read before after number row rests read number_is later =
    let most : (k : ℕ) (pair : Pair) → get_elem? before.seen k ≡ some pair → pair.0 ≤ number = λ k pair e. let m = rests.1 k pair e in omega arith in (
      subst NumbersNeverFall (sym read.seen) (never_fall_more before.seen number row rests.0 most),
      subst (λ (seen : List Pair). NoneIsNewer after.number seen) (sym read.seen)
          (subst (λ (n : ℕ). NoneIsNewer n (before.seen ++ (number, row) ∷ [])) (sym number_is) (newest_pair before.seen number row most)),
    )

-- where the pairs and the number stay, the rest stays
pub rests_as_before : (before after : ReaderView) → RestsAsReader before → after.seen ≡ before.seen → after.number ≡ before.number → RestsAsReader after
rests_as_before before after rests seen number = (
  subst NumbersNeverFall (sym seen) rests.0,
  subst (λ (s : List Pair). NoneIsNewer after.number s) (sym seen) (subst (λ (n : ℕ). NoneIsNewer n before.seen) (sym number) rests.1),
)

-- what one read, between calls that keep the pairs and the number, leaves
pub rests_after_calls : (start told after end : ReaderView) (number : ℕ) (row : List ℕ) → RestsAsReader start → told.seen ≡ start.seen → told.number ≡ start.number
    → IsOneRead told after number row → after.number ≡ number → told.number ≤ number → end.seen ≡ after.seen → end.number ≡ after.number → RestsAsReader end
rests_after_calls start told after end number row rests told_seen told_number read number_is later end_seen end_number =
    rests_as_before after end (rests_after_read told after number row (rests_as_before start told rests told_seen told_number) read number_is later) end_seen end_number
