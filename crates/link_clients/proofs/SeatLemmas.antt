-- The seats after a deed.
use Rattle.std.proofs.Common.{◌≡◌, refl, sym, ◌∙◌, ap, subst, arith, ℕ, zero, suc, ◌<◌, ◌==◌, Bool, true, false, if◌then◌else◌, List, [], ◌∷◌, length, Option, Some, None}
use Rattle.std.specs.Prelude.{All, slice_get, slice_index_or, set}
use Rattle.std.proofs.lemmas.Bool.Decides.{nat_tests}
use Rattle.link_control.specs.Log.{Numbered}
use Rattle.link_clients.specs.Deeds.{Deed}
use Rattle.link_clients.specs.Seats.{SeatView, seat_in}
use Rattle.link_clients.specs.Standing.{AreSeatsBut, IsSeat}
use Rattle.link_clients.specs.declared.seat.Seat.{Seat}

-- ---- places in a list

no_some : {A : Type 0} (x : A) → None ≡ Some x → ⊥
no_some x e = cc e

pub some_same : {A : Type 0} (x y : A) → Some x ≡ Some y → x ≡ y
some_same x y e = cc

pub get_set : {A : Type 0} (xs : List A) (k : ℕ) (v x : A) → slice_get xs k ≡ Some x → slice_get (set xs k v) k ≡ Some v
get_set [] k v x e = absurd (no_some x e)
get_set (y ∷ ys) zero v x e = refl
get_set (y ∷ ys) (suc k) v x e = get_set ys k v x e

pub get_other : {A : Type 0} (xs : List A) (p k : ℕ) (v : A) → (k ≡ p → ⊥) → slice_get (set xs p v) k ≡ slice_get xs k
get_other [] p k v ne = refl
get_other (y ∷ ys) zero zero v ne = absurd (ne refl)
get_other (y ∷ ys) zero (suc k) v ne = refl
get_other (y ∷ ys) (suc p) zero v ne = refl
get_other (y ∷ ys) (suc p) (suc k) v ne = get_other ys p k v (λ e. ne (ap suc e))

pub inside : {A : Type 0} (xs : List A) (k : ℕ) (x : A) → slice_get xs k ≡ Some x → k < length xs
inside [] k x e = absurd (no_some x e)
inside (y ∷ ys) zero x e = omega arith
inside (y ∷ ys) (suc k) x e = omega (arith, inside ys k x e)

pub at_most_fifteen : {A : Type 0} (xs : List A) (k : ℕ) (x : A) → length xs ≡ 15 → slice_get xs k ≡ Some x → k < 15
at_most_fifteen xs k x count e = omega (arith, count, inside xs k x e)

pub at_place : {A : Type 0} (xs : List A) (k : ℕ) (x d : A) → slice_get xs k ≡ Some x → slice_index_or xs k d ≡ x
at_place [] k x d e = absurd (no_some x e)
at_place (y ∷ ys) zero x d e = some_same y x e
at_place (y ∷ ys) (suc k) x d e = at_place ys k x d e

-- what is so of all elements is so of one
pub of_all : {A : Type 0} (P : A → Type 0) (xs : List A) (k : ℕ) (x : A) → All P xs → slice_get xs k ≡ Some x → P x
of_all P xs k x all e = subst P (at_place xs k x x e) (all k x (inside xs k x e))

-- what is read of a place in a list stands there
pub read_at : {A : Type 0} (xs : List A) (k : ℕ) (x : A) → k < length xs → x ≡ slice_index_or xs k x → slice_get xs k ≡ Some x
read_at [] k x less e = absurd (omega (arith, less))
read_at (y ∷ ys) zero x less e = ap Some (sym e)
read_at (y ∷ ys) (suc k) x less e = read_at ys k x (omega (arith, less)) e

-- ---- numbers

same_number : (a b : ℕ) → (a == b) ≡ true → a ≡ b
same_number a b is = grind (arith, nat_tests)

other_number : (a b : ℕ) → (a == b) ≡ false → a ≡ b → ⊥
other_number a b is same = grind (arith, nat_tests)

by_test : (P : Type 0) (t : Bool) → (t ≡ true → P) → (t ≡ false → P) → P
by_test P true on off = on refl
by_test P false on off = off refl

pub by_number : {P : Type 0} (a b : ℕ) → (a ≡ b → P) → ((a ≡ b → ⊥) → P) → P
by_number {P} a b same other = by_test P (a == b) (λ is. same (same_number a b is)) (λ is. other (other_number a b is))

pub if_same : {A : Type 0} (s : ℕ) (x y : A) → (if s == s then x else y) ≡ x
if_same s x y = grind (arith, nat_tests)

pub if_other : {A : Type 0} (t s : ℕ) (x y : A) → (t ≡ s → ⊥) → (if t == s then x else y) ≡ y
if_other t s x y ne = grind (arith, nat_tests, ne)

-- ---- seats

-- what this deed leaves of each other seat
abbrev pub LeavesOthers : ℕ → Option Numbered → List Deed → Deed → Type 0
LeavesOthers s own done deed = (t : ℕ) → (t ≡ s → ⊥) → seat_in own t (deed ∷ done) ≡ seat_in own t done

pub others_stay : (s : ℕ) (own : Option Numbered) (done : List Deed) (deed : Deed) (seats seats_then : List Seat) → LeavesOthers s own done deed
    → ((t : ℕ) → (t ≡ s → ⊥) → slice_get seats_then t ≡ slice_get seats t) → AreSeatsBut s own done seats → AreSeatsBut s own (deed ∷ done) seats_then
others_stay s own done deed seats seats_then leaves same all = λ t seat other at.
    subst (λ (v : SeatView). IsSeat v seat) (sym (leaves t other)) (all t seat other (sym (same t other) ∙ at))

pub all_but : (s : ℕ) (own : Option Numbered) (done : List Deed) (seats : List Seat)
    → ((t : ℕ) (seat : Seat) → slice_get seats t ≡ Some seat → IsSeat (seat_in own t done) seat) → AreSeatsBut s own done seats
all_but s own done seats all = λ t seat other at. all t seat at

pub but_and : (s : ℕ) (own : Option Numbered) (done : List Deed) (seats : List Seat) (seat : Seat) → AreSeatsBut s own done seats → slice_get seats s ≡ Some seat
    → IsSeat (seat_in own s done) seat → (t : ℕ) (other : Seat) → slice_get seats t ≡ Some other → IsSeat (seat_in own t done) other
but_and s own done seats seat others at is = λ t other at_t.
    by_number t s
    (λ same. subst (λ (x : SeatView). IsSeat x other) (ap (λ n. seat_in own n done) (sym same))
    (subst (IsSeat (seat_in own s done)) (some_same seat other (sym at ∙ ap (slice_get seats) (sym same) ∙ at_t)) is))
    (λ differs. others t other differs at_t)
