-- Signed numbers as differences of two natural ones. `simp differences` brings a polynomial to one difference, and
-- `same` compares two: the sums of products are then of natural numbers, which `omega` multiplies out.
use Rattle.std.proofs.Common.{◌≡◌, ℕ, ◌+◌, ◌*◌, ℤ, pos, ◌+ℤ◌, ◌-ℤ◌, ◌*ℤ◌, ap, arith}
use Rattle.std.proofs.lemmas.Int.{ints}
use borrow.Author.Differences.{up, down}

unfoldable pub dif : ℕ → ℕ → ℤ
dif p q = pos p -ℤ pos q

pub dif-add : (p q r s : ℕ) → dif p q +ℤ dif r s ≡ dif (p + r) (q + s)
unfolding dif
dif-add p q r s = omega (arith, ints)

pub dif-sub : (p q r s : ℕ) → dif p q -ℤ dif r s ≡ dif (p + s) (q + r)
unfolding dif
dif-sub p q r s = omega (arith, ints)

pub dif-mul : (p q r s : ℕ) → dif p q *ℤ dif r s ≡ dif (p * r + q * s) (p * s + q * r)
unfolding dif
dif-mul p q r s =
    let a = pos p -ℤ pos q in
    let b = pos r -ℤ pos s in
    let one : up a + q ≡ down a + p = omega (arith, ints) in
    let two : up b + s ≡ down b + r = omega (arith, ints) in
    omega (arith, ints, ap (λ n. n * up b) one, ap (λ n. n * down b) one, ap (λ n. p * n) two, ap (λ n. q * n) two)

pub same : (p q r s : ℕ) → p + s ≡ r + q → dif p q ≡ dif r s
unfolding dif
same p q r s e = omega (arith, ints)

pub dif_is : (z : ℤ) → dif (up z) (down z) ≡ z
unfolding dif
dif_is z = omega (arith, ints)

pub ruleset differences = (dif-add, dif-sub, dif-mul)

-- ---- laws of products
times_sum-dif : (p q r s t u : ℕ) → dif p q *ℤ (dif r s +ℤ dif t u) ≡ dif p q *ℤ dif r s +ℤ dif p q *ℤ dif t u
times_sum-dif p q r s t u = simp differences (same _ _ _ _ (omega arith))

pub times_sum : (a b c : ℤ) → a *ℤ (b +ℤ c) ≡ a *ℤ b +ℤ a *ℤ c
times_sum a b c = simp dif_is at (times_sum-dif (up a) (down a) (up b) (down b) (up c) (down c))

-- ---- a distance from one line, brought to the unit of another
other_line-dif : (E E' P P' Q Q' e e' p p' q q' u u' v v' : ℕ)
    → dif E E' *ℤ (dif e e' *ℤ dif v v' -ℤ dif p p' -ℤ dif q q' *ℤ dif u u')
    ≡ dif e e' *ℤ (dif E E' *ℤ dif v v' -ℤ dif P P' -ℤ dif Q Q' *ℤ dif u u')
    +ℤ ((dif e e' *ℤ dif P P' -ℤ dif E E' *ℤ dif p p') +ℤ (dif e e' *ℤ dif Q Q' -ℤ dif E E' *ℤ dif q q') *ℤ dif u u')
other_line-dif E E' P P' Q Q' e e' p p' q q' u u' v v' = simp differences (same _ _ _ _ (omega arith))

pub other_line : (E P Q e p q u v : ℤ)
    → E *ℤ (e *ℤ v -ℤ p -ℤ q *ℤ u) ≡ e *ℤ (E *ℤ v -ℤ P -ℤ Q *ℤ u) +ℤ ((e *ℤ P -ℤ E *ℤ p) +ℤ (e *ℤ Q -ℤ E *ℤ q) *ℤ u)
other_line E P Q e p q u v =
    simp dif_is at (other_line-dif (up E) (down E) (up P) (down P) (up Q) (down Q) (up e) (down e) (up p) (down p) (up q) (down q) (up u) (down u) (up v) (down v))

-- ---- its square
squared-dif : (e e' r r' c c' : ℕ)
    → (dif e e' *ℤ dif r r' +ℤ dif c c') *ℤ (dif e e' *ℤ dif r r' +ℤ dif c c')
    ≡ (dif e e' *ℤ dif e e') *ℤ (dif r r' *ℤ dif r r') +ℤ (dif e e' +ℤ dif e e') *ℤ (dif r r' *ℤ dif c c') +ℤ dif c c' *ℤ dif c c'
squared-dif e e' r r' c c' = simp differences (same _ _ _ _ (omega arith))

pub squared : (e r c : ℤ) → (e *ℤ r +ℤ c) *ℤ (e *ℤ r +ℤ c) ≡ (e *ℤ e) *ℤ (r *ℤ r) +ℤ (e +ℤ e) *ℤ (r *ℤ c) +ℤ c *ℤ c
squared e r c = simp dif_is at (squared-dif (up e) (down e) (up r) (down r) (up c) (down c))

square_of_times-dif : (e e' r r' : ℕ) → (dif e e' *ℤ dif r r') *ℤ (dif e e' *ℤ dif r r') ≡ (dif e e' *ℤ dif e e') *ℤ (dif r r' *ℤ dif r r')
square_of_times-dif e e' r r' = simp differences (same _ _ _ _ (omega arith))

pub square_of_times : (e r : ℤ) → (e *ℤ r) *ℤ (e *ℤ r) ≡ (e *ℤ e) *ℤ (r *ℤ r)
square_of_times e r = simp dif_is at (square_of_times-dif (up e) (down e) (up r) (down r))

by_line-dif : (k k' a a' b b' r r' u u' : ℕ)
    → dif k k' *ℤ (dif r r' *ℤ (dif a a' +ℤ dif b b' *ℤ dif u u'))
    ≡ (dif k k' *ℤ dif a a') *ℤ dif r r' +ℤ (dif k k' *ℤ dif b b') *ℤ (dif r r' *ℤ dif u u')
by_line-dif k k' a a' b b' r r' u u' = simp differences (same _ _ _ _ (omega arith))

pub by_line : (k a b r u : ℤ) → k *ℤ (r *ℤ (a +ℤ b *ℤ u)) ≡ (k *ℤ a) *ℤ r +ℤ (k *ℤ b) *ℤ (r *ℤ u)
by_line k a b r u = simp dif_is at (by_line-dif (up k) (down k) (up a) (down a) (up b) (down b) (up r) (down r) (up u) (down u))

-- ---- the line of five sums balances
balance-dif : (n u u' v v' s s' t t' : ℕ)
    → (dif n 0 *ℤ dif s s' -ℤ dif u u' *ℤ dif u u') *ℤ dif v v'
    -ℤ dif n 0 *ℤ (dif v v' *ℤ dif s s' -ℤ dif u u' *ℤ dif t t')
    -ℤ (dif n 0 *ℤ dif t t' -ℤ dif u u' *ℤ dif v v') *ℤ dif u u' ≡ dif 0 0
balance-dif n u u' v v' s s' t t' = simp differences (same _ _ _ _ (omega arith))

balance_sample-dif : (n u u' v v' s s' t t' : ℕ)
    → (dif n 0 *ℤ dif s s' -ℤ dif u u' *ℤ dif u u') *ℤ dif t t'
    -ℤ (dif v v' *ℤ dif s s' -ℤ dif u u' *ℤ dif t t') *ℤ dif u u'
    -ℤ (dif n 0 *ℤ dif t t' -ℤ dif u u' *ℤ dif v v') *ℤ dif s s' ≡ dif 0 0
balance_sample-dif n u u' v v' s s' t t' = simp differences (same _ _ _ _ (omega arith))

pub pos_is : (n : ℕ) → dif n 0 ≡ pos n
unfolding dif
pos_is n = omega (arith, ints)

pub balance : (n : ℕ) (u v s t : ℤ)
    → (pos n *ℤ s -ℤ u *ℤ u) *ℤ v -ℤ pos n *ℤ (v *ℤ s -ℤ u *ℤ t) -ℤ (pos n *ℤ t -ℤ u *ℤ v) *ℤ u ≡ pos 0
balance n u v s t = simp (dif_is, pos_is) at (balance-dif n (up u) (down u) (up v) (down v) (up s) (down s) (up t) (down t))

pub balance_sample : (n : ℕ) (u v s t : ℤ)
    → (pos n *ℤ s -ℤ u *ℤ u) *ℤ t -ℤ (v *ℤ s -ℤ u *ℤ t) *ℤ u -ℤ (pos n *ℤ t -ℤ u *ℤ v) *ℤ s ≡ pos 0
balance_sample n u v s t = simp (dif_is, pos_is) at (balance_sample-dif n (up u) (down u) (up v) (down v) (up s) (down s) (up t) (down t))

above_sample-dif : (E E' P P' Q Q' u u' v v' : ℕ)
    → (dif E E' *ℤ dif v v' -ℤ dif P P' -ℤ dif Q Q' *ℤ dif u u') *ℤ dif u u'
    ≡ dif E E' *ℤ (dif u u' *ℤ dif v v') -ℤ dif P P' *ℤ dif u u' -ℤ dif Q Q' *ℤ (dif u u' *ℤ dif u u')
above_sample-dif E E' P P' Q Q' u u' v v' = simp differences (same _ _ _ _ (omega arith))

pub above_sample : (E P Q u v : ℤ) → (E *ℤ v -ℤ P -ℤ Q *ℤ u) *ℤ u ≡ E *ℤ (u *ℤ v) -ℤ P *ℤ u -ℤ Q *ℤ (u *ℤ u)
above_sample E P Q u v = simp dif_is at (above_sample-dif (up E) (down E) (up P) (down P) (up Q) (down Q) (up u) (down u) (up v) (down v))

-- ---- how far samples are spread
apart_squared-dif : (x x' s s' : ℕ) → (dif s s' -ℤ dif x x') *ℤ (dif s s' -ℤ dif x x')
    ≡ dif s s' *ℤ dif s s' -ℤ (dif x x' +ℤ dif x x') *ℤ dif s s' +ℤ dif x x' *ℤ dif x x'
apart_squared-dif x x' s s' = simp differences (same _ _ _ _ (omega arith))

pub apart_squared : (x s : ℤ) → (s -ℤ x) *ℤ (s -ℤ x) ≡ s *ℤ s -ℤ (x +ℤ x) *ℤ s +ℤ x *ℤ x
apart_squared x s = simp dif_is at (apart_squared-dif (up x) (down x) (up s) (down s))

spread_more-dif : (n u u' s s' x x' : ℕ)
    → dif (1 + n) 0 *ℤ (dif x x' *ℤ dif x x' +ℤ dif s s') -ℤ (dif x x' +ℤ dif u u') *ℤ (dif x x' +ℤ dif u u')
    ≡ (dif n 0 *ℤ dif s s' -ℤ dif u u' *ℤ dif u u') +ℤ (dif s s' -ℤ (dif x x' +ℤ dif x x') *ℤ dif u u' +ℤ dif n 0 *ℤ (dif x x' *ℤ dif x x'))
spread_more-dif n u u' s s' x x' = simp differences (same _ _ _ _ (omega arith))

pub spread_more : (n : ℕ) (u s x : ℤ)
    → pos (1 + n) *ℤ (x *ℤ x +ℤ s) -ℤ (x +ℤ u) *ℤ (x +ℤ u)
    ≡ (pos n *ℤ s -ℤ u *ℤ u) +ℤ (s -ℤ (x +ℤ x) *ℤ u +ℤ pos n *ℤ (x *ℤ x))
spread_more n u s x = simp (dif_is, pos_is) at (spread_more-dif n (up u) (down u) (up s) (down s) (up x) (down x))
