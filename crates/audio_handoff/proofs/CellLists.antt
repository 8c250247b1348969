-- Lists that grow by one: rows made, pairs read, and looks.
use Rattle.std.proofs.Common.{◌≡◌, ℕ, zero, suc, ◌<◌, ◌≤◌, ◌⊎◌, List, [], ◌∷◌, ◌++◌, length, sym, refl, ap, ◌∙◌, subst, inl, inr, ⊎_elim, arith, append_assoc, append-nil}
use mathlib.Core.Option.{some, some-injective, some-ne-none}
use lib.ListN.{get_elem?}
use Rattle.atomic_table.proofs.Lists.{at_longer}
use Rattle.audio_handoff.specs.Cell.{Pair, Grows, IsMade, WereMade, NumbersNeverFall, LooksWereAnswered}

module _ {A : Type 0} where
  pub below_length : (l : List A) (j : ℕ) (a : A) → get_elem? l j ≡ some a → j < length l
  below_length [] j a e = absurd (some-ne-none a (sym e))
  below_length (x ∷ xs) zero a e = omega arith
  below_length (x ∷ xs) (suc j) a e = let h = below_length xs j a e in omega arith

  pub snoc_at : (l : List A) (a b : A) (j : ℕ) → get_elem? (l ++ a ∷ []) j ≡ some b → (get_elem? l j ≡ some b) ⊎ ((j ≡ length l) × (a ≡ b))
  snoc_at [] a b zero e = inr (refl, some-injective a b e)
  snoc_at [] a b (suc j) e = absurd (some-ne-none b (sym e))
  snoc_at (x ∷ xs) a b zero e = inl e
  snoc_at (x ∷ xs) a b (suc j) e = ⊎_elim inl (λ (t : (j ≡ length xs) × (a ≡ b)). inr (ap suc t.0, t.1)) (snoc_at xs a b j e)

  pub grows_by : (before after : List A) (x : A) → Grows before after → Grows before (after ++ x ∷ [])
  grows_by before after x g = (g.0 ++ x ∷ [], ap (λ l. l ++ x ∷ []) g.1 ∙ append_assoc before g.0 (x ∷ []))

  pub grows_none : (l : List A) → Grows [] l
  grows_none l = (l, refl)

  pub grows_self : (l : List A) → Grows l l
  grows_self l = ([], sym (append-nil l))

pub made_longer : (made : List (List ℕ)) (row : List ℕ) (seen : List Pair) → WereMade made seen → WereMade (made ++ row ∷ []) seen
made_longer made row seen h k pair e = at_longer made (row ∷ []) pair.0 pair.1 (h k pair e)

pub made_pair : (made : List (List ℕ)) (seen : List Pair) (number : ℕ) (row : List ℕ) → IsMade made number row → WereMade made seen → WereMade made (seen ++ (number, row) ∷ [])
made_pair made seen number row m h k pair e =
    ⊎_elim (h k pair) (λ (t : (k ≡ length seen) × ((number, row) ≡ pair)). subst (λ (x : Pair). IsMade made x.0 x.1) t.1 m) (snoc_at seen (number, row) pair k e)

pub newest_pair : (seen : List Pair) (number : ℕ) (row : List ℕ) → ((k : ℕ) (pair : Pair) → get_elem? seen k ≡ some pair → pair.0 ≤ number)
    → (k : ℕ) (pair : Pair) → get_elem? (seen ++ (number, row) ∷ []) k ≡ some pair → pair.0 ≤ number
newest_pair seen number row h k pair e = ⊎_elim (h k pair) (λ (t : (k ≡ length seen) × ((number, row) ≡ pair)). let is = ap (λ (x : Pair). x.0) t.1 in omega arith) (snoc_at seen (number, row) pair k e)

pub never_fall_more : (seen : List Pair) (number : ℕ) (row : List ℕ) → NumbersNeverFall seen → ((k : ℕ) (pair : Pair) → get_elem? seen k ≡ some pair → pair.0 ≤ number) → NumbersNeverFall (seen ++ (number, row) ∷ [])
never_fall_more seen number row h most j k first second le e f =
    ⊎_elim
    (λ (g : get_elem? seen k ≡ some second). ⊎_elim
    (λ (d : get_elem? seen j ≡ some first). h j k first second le d g)
    (λ (t : (j ≡ length seen) × ((number, row) ≡ first)). let a = below_length seen k second g in let b = t.0 in absurd (omega arith))
    (snoc_at seen (number, row) first j e))
    (λ (t : (k ≡ length seen) × ((number, row) ≡ second)).
    let is = ap (λ (x : Pair). x.0) t.1 in
    let m = newest_pair seen number row most j first e in
    omega arith)
    (snoc_at seen (number, row) second k f)

pub answered_more : (looks : List ℕ) (seen : List Pair) (number : ℕ) (row : List ℕ) → ((k : ℕ) (look : ℕ) → get_elem? looks k ≡ some look → look ≤ number) → LooksWereAnswered looks seen → LooksWereAnswered looks (seen ++ (number, row) ∷ [])
answered_more looks seen number row most h k look pair e f =
    ⊎_elim (h k look pair e) (λ (t : (k ≡ length seen) × ((number, row) ≡ pair)). let is = ap (λ (x : Pair). x.0) t.1 in let m = most k look e in omega arith) (snoc_at seen (number, row) pair k f)

pub all_at_most_more : (numbers : List ℕ) (x limit : ℕ) → x ≤ limit → ((k : ℕ) (number : ℕ) → get_elem? numbers k ≡ some number → number ≤ limit) → (k : ℕ) (number : ℕ) → get_elem? (numbers ++ x ∷ []) k ≡ some number → number ≤ limit
all_at_most_more numbers x limit fits h k n e = ⊎_elim (h k n) (λ (t : (k ≡ length numbers) × (x ≡ n)). let is = t.1 in omega arith) (snoc_at numbers x n k e)

-- a look that has no pair yet changes nothing
pub looked_more : (looks : List ℕ) (seen : List Pair) (look : ℕ) → length looks ≡ length seen → LooksWereAnswered looks seen → LooksWereAnswered (looks ++ look ∷ []) seen
looked_more looks seen look same h k l pair e f =
    ⊎_elim (λ d. h k l pair d f) (λ (t : (k ≡ length looks) × (look ≡ l)). let a = below_length seen k pair f in let b = t.0 in absurd (omega arith)) (snoc_at looks look l k e)
