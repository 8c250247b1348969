-- The moments that a pace answers, one line after another.
use Rattle.std.proofs.Common.{◌≡◌, refl, sym, ◌∙◌, ap, subst, arith, ℕ, ℤ, pos, zero, suc, ◌+◌, ◌*◌, ◌^◌, ◌+ℤ◌, List, [], ◌∷◌, ◌++◌, Option, Some, None}
use Rattle.std.specs.Int.{int_min}
use Rattle.std.proofs.lemmas.Int.{ints, clamps}
use mathlib.Core.Option.{some, some-injective, some-ne-none}
use lib.ListN.{get_elem?}
use Rattle.lk_outside.specs.Pace.{IsPaced}
use Rattle.link_control.specs.Log.{Answered, Numbered, entries_of, entry_of, own_after}
use Rattle.link_control.specs.Serving.{AreLate, ArePaced}
use Rattle.link_control.specs.ServingNow.{last_answered}
use Rattle.link_control.specs.declared.log.LineLog.{LineLog}

pub paced_more : (late : Option ℤ) (last : ℤ) (answered : List Answered) (one : Answered)
    → ArePaced late last answered → IsPaced late (last_answered last answered) one.at → ArePaced late last (answered ++ one ∷ [])
paced_more late last [] one so_far paced = (paced, tt)
paced_more late last (first ∷ answered) one so_far paced = (so_far.0, paced_more late first.at answered one so_far.1 paced)

pub last_more : (last : ℤ) (answered : List Answered) (one : Answered) → last_answered last (answered ++ one ∷ []) ≡ one.at
last_more last [] one = refl
last_more last (first ∷ answered) one = last_more first.at answered one

-- ---- where the pace tells how late it is

capped_more : (x d c : ℕ) → int_min (int_min (pos x) (pos c) +ℤ pos d) (pos c) ≡ int_min (pos (x + d)) (pos c)
capped_more x d c = omega (arith, ints, clamps)

-- so late for each line, and no later than the last moment
late_after : (last at : ℤ) (count n d c : ℕ) → last ≡ int_min (pos (count * d)) (pos c) → at ≡ int_min (last +ℤ pos d) (pos c) → n ≡ count + 1
    → at ≡ int_min (pos (n * d)) (pos c)
late_after last at count n d c last_is at_is n_is =
    let step : count * d + d ≡ (count + 1) * d = omega arith in
    let times : count * d + d ≡ n * d = step ∙ ap (λ (m : ℕ). m * d) (sym n_is) in
    at_is
    ∙ ap (λ (z : ℤ). int_min (z +ℤ pos d) (pos c)) last_is
    ∙ capped_more (count * d) d c
    ∙ ap (λ (m : ℕ). int_min (pos m) (pos c)) times

moment_of_entry : (own : Option Numbered) (one : Answered) → (entry_of own one).moment ≡ one.at
unfolding entry_of
moment_of_entry own one = refl

late_from : (d count : ℕ) (last : ℤ) (own : Option Numbered) (answered : List Answered)
    → last ≡ int_min (pos (count * d)) (pos (2 ^ 55)) → ArePaced (Some (pos d)) last answered
    → (k n : ℕ) (entry : LineLog) → get_elem? (entries_of own answered) k ≡ some entry → n ≡ count + k + 1
    → entry.moment ≡ int_min (pos (n * d)) (pos (2 ^ 55))
unfolding entries_of
late_from d count last own [] last_is paced k n entry e n_is = absurd (some-ne-none entry (sym e))
late_from d count last own (first ∷ answered) last_is paced zero n entry e n_is =
    ap (λ (x : LineLog). x.moment) (sym (some-injective (entry_of own first) entry e))
    ∙ moment_of_entry own first
    ∙ late_after last first.at count n d (2 ^ 55) last_is paced.0.told (omega (arith, n_is))
late_from d count last own (first ∷ answered) last_is paced (suc k) n entry e n_is =
    late_from d (count + 1) first.at (own_after own (entry_of own first).commit) answered
    (late_after last first.at count (count + 1) d (2 ^ 55) last_is paced.0.told refl) paced.1 k n entry e (omega (arith, n_is))

pub are_late : (late : Option ℤ) (own : Option Numbered) (answered : List Answered) → ArePaced late (pos 0) answered → AreLate late (entries_of own answered)
are_late None own answered paced = tt
are_late (Some d) own answered paced = λ k entry lateness d_is e.
    late_from lateness 0 (pos 0) own answered (first_moment lateness)
    (subst (λ (z : ℤ). ArePaced (Some z) (pos 0) answered) d_is paced) k (k + 1) entry e (omega arith)
  where
    first_moment : (lateness : ℕ) → pos 0 ≡ int_min (pos (0 * lateness)) (pos (2 ^ 55))
    first_moment lateness =
        let none : ◌≡◌ {A = ℕ} 0 (0 * lateness) = omega arith in
        ap (λ (n : ℕ). int_min (pos n) (pos (2 ^ 55))) none
