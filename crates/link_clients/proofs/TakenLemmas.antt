-- Bytes of a client that are taken one after another.
use Rattle.std.proofs.Common.{◌≡◌, refl, sym, subst, arith, ℕ, zero, suc, ◌+◌, ◌<◌, ◌≤◌, ℤ, Bool, true, false, List, [], ◌∷◌, ◌++◌, length, get_or, drop, Option, Some, slice_index_or}
use Rattle.std.specs.Prelude.{slice_get}
use Rattle.lk_talks.specs.Talks.{TalksSeen}
use Rattle.link_shared.specs.Passes.{AppView}
use Rattle.link_clients.specs.Standing.{GoesOnAmid, StandsAmid, Takes}
use Rattle.link_clients.specs.declared.hall.Hall.{Hall}
use Rattle.link_clients.specs.declared.piece.Going.{Going}
use Rattle.link_clients.specs.declared.piece.Going.TheVariants as going
use Rattle.link_clients.specs.declared.terms.Terms.{Terms}

pub not_both : {A : Type 0} (b : Bool) → b ≡ true → b ≡ false → A
not_both true is other = absurd (cc other)
not_both false is other = absurd (cc is)

-- what is at a place is what an index gives
pub index_is : {A : Type 0} (xs : List A) (k : ℕ) (x d : A) → slice_get xs k ≡ Some x → slice_index_or xs k d ≡ x
index_is [] k x d e = absurd (cc e)
index_is (y ∷ ys) zero x d e = cc
index_is (y ∷ ys) (suc k) x d e = index_is ys k x d e

drop_at : (xs : List ℕ) (k d : ℕ) → k < length xs → drop k xs ≡ get_or xs k d ∷ drop (suc k) xs
drop_at [] k d few = absurd (omega (arith, few))
drop_at (x ∷ xs) zero d few = refl
drop_at (x ∷ xs) (suc k) d few = drop_at xs k d (omega (arith, few))

drop_beyond : (xs : List ℕ) (k : ℕ) → length xs ≤ k → drop k xs ≡ []
drop_beyond [] zero all = refl
drop_beyond [] (suc k) all = refl
drop_beyond (x ∷ xs) zero all = absurd (omega (arith, all))
drop_beyond (x ∷ xs) (suc k) all = drop_beyond xs k (omega (arith, all))

-- a byte of a piece is taken
pub byte_taken : (terms : Terms) (late late_then : Option ℤ) (start now after : TalksSeen) (first pass pass_then : AppView) (hall hall_then : Hall) (s : ℕ) (bytes left : List ℕ) (k fallback : ℕ) (went : Going)
    → late_then ≡ late → k < length bytes → Takes terms late_then now after pass pass_then hall hall_then s (get_or bytes k fallback ∷ []) went
    → StandsAmid terms late start now first pass hall s (drop k bytes ++ left) → GoesOnAmid terms late start after first pass_then hall_then s (drop (k + 1) bytes ++ left) went
byte_taken terms late late_then start now after first pass pass_then hall hall_then s bytes left k fallback went late_is within takes run =
    let next : suc k ≡ k + 1 = omega arith in
    subst (λ (n : ℕ). GoesOnAmid terms late start after first pass_then hall_then s (drop n bytes ++ left) went) next
    (subst (λ (z : Option ℤ). GoesOnAmid terms z start after first pass_then hall_then s (drop (suc k) bytes ++ left) went) late_is
    (takes start first (drop (suc k) bytes ++ left)
    (subst (λ (z : Option ℤ). StandsAmid terms z start now first pass hall s (get_or bytes k fallback ∷ drop (suc k) bytes ++ left)) (sym late_is)
    (subst (λ (l : List ℕ). StandsAmid terms late start now first pass hall s (l ++ left)) (drop_at bytes k fallback within) run))))

-- and the next is
pub piece_on : (terms : Terms) (late late_then : Option ℤ) (start now after : TalksSeen) (first pass pass_then : AppView) (hall hall_then : Hall) (s : ℕ) (bytes left : List ℕ) (k fallback : ℕ) (went : Going)
    → late_then ≡ late → k < length bytes → went ≡ going.On → Takes terms late_then now after pass pass_then hall hall_then s (get_or bytes k fallback ∷ []) went
    → StandsAmid terms late start now first pass hall s (drop k bytes ++ left) → StandsAmid terms late start after first pass_then hall_then s (drop (k + 1) bytes ++ left)
piece_on terms late late_then start now after first pass pass_then hall hall_then s bytes left k fallback went late_is within on takes run =
    subst (λ (w : Going). GoesOnAmid terms late start after first pass_then hall_then s (drop (k + 1) bytes ++ left) w) on
    (byte_taken terms late late_then start now after first pass pass_then hall hall_then s bytes left k fallback went late_is within takes run)

any_left : (terms : Terms) (late : Option ℤ) (start now : TalksSeen) (first pass : AppView) (hall : Hall) (s : ℕ) (left other : List ℕ) (went : Going) → (went ≡ going.On → ⊥)
    → GoesOnAmid terms late start now first pass hall s left went → GoesOnAmid terms late start now first pass hall s other went
any_left terms late start now first pass hall s left other going.On not goes = absurd (not refl)
any_left terms late start now first pass hall s left other going.Gone not goes = goes
any_left terms late start now first pass hall s left other (going.Over end) not goes = goes

-- or none is
pub piece_stopped : (terms : Terms) (late late_then : Option ℤ) (start now after : TalksSeen) (first pass pass_then : AppView) (hall hall_then : Hall) (s : ℕ) (bytes left : List ℕ) (k fallback : ℕ) (went : Going)
    → late_then ≡ late → k < length bytes → (went ≡ going.On → ⊥) → Takes terms late_then now after pass pass_then hall hall_then s (get_or bytes k fallback ∷ []) went
    → StandsAmid terms late start now first pass hall s (drop k bytes ++ left) → GoesOnAmid terms late start after first pass_then hall_then s left went
piece_stopped terms late late_then start now after first pass pass_then hall hall_then s bytes left k fallback went late_is within not takes run =
    any_left terms late start after first pass_then hall_then s (drop (k + 1) bytes ++ left) left went not
    (byte_taken terms late late_then start now after first pass pass_then hall hall_then s bytes left k fallback went late_is within takes run)

-- all bytes of a piece were taken
pub piece_taken : (terms : Terms) (late : Option ℤ) (start now : TalksSeen) (first pass : AppView) (hall : Hall) (s : ℕ) (bytes left : List ℕ) (k : ℕ)
    → length bytes ≤ k → StandsAmid terms late start now first pass hall s (drop k bytes ++ left) → StandsAmid terms late start now first pass hall s left
piece_taken terms late start now first pass hall s bytes left k all run =
    subst (λ (l : List ℕ). StandsAmid terms late start now first pass hall s (l ++ left)) (drop_beyond bytes k all) run
