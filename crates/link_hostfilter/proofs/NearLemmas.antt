-- Nearest numbers to equal quotients, and how great one is.
use Rattle.std.proofs.Common.{◌≡◌, ℕ, suc, ◌*◌, ◌<◌, ◌≤◌, ℤ, pos, negsuc, ◌+ℤ◌, ◌-ℤ◌, ◌*ℤ◌, ◌<ℤ◌, unsigned_abs, ap, sym, ◌∙◌, inl, inr, arith}
use Rattle.std.proofs.lemmas.Int.{ints, unsigned_abs-mul}
use borrow.Author.Differences.{up, down}
use native.Mathlib.Nat.{mul-le-mul_right, mul-le-mul_left}
use Rattle.lk_base.specs.Rounding.{IsNear, nearest_of}
use Rattle.std.proofs.lemmas.Bool.{cases_lt}
use Rattle.lk_base.proofs.RoundingLemmas.{nearest_of-IsNearest, one_nearest}
use Rattle.link_hostfilter.proofs.RingLemmas.{dif, dif_is, same, differences}

-- cases on the order of two numbers
pub by_lt : {P : Type 0} (m n : ℕ) → (m < n → P) → (n ≤ m → P) → P
by_lt m n f g = elim (cases_lt m n) [ inl lt ↦ f lt | inr le ↦ g le ]

minus : (a x b y : ℤ) → a +ℤ x ≡ b +ℤ y → x ≡ y → a ≡ b
minus a x b y e f = omega (arith, ints)

-- d times the distance of m from q times e is e times that of n from q times d
same_distance-dif : (n n' d d' m m' e e' q q' : ℕ)
    → dif d d' *ℤ (dif m m' -ℤ dif q q' *ℤ dif e e') +ℤ dif n n' *ℤ dif e e' ≡ dif e e' *ℤ (dif n n' -ℤ dif q q' *ℤ dif d d') +ℤ dif m m' *ℤ dif d d'
same_distance-dif n n' d d' m m' e e' q q' = simp differences (same _ _ _ _ (omega arith))

same_distance : (n d m e q : ℤ) → n *ℤ e ≡ m *ℤ d → d *ℤ (m -ℤ q *ℤ e) ≡ e *ℤ (n -ℤ q *ℤ d)
same_distance n d m e q h =
    let moved = simp dif_is at (same_distance-dif (up n) (down n) (up d) (down d) (up m) (down m) (up e) (down e) (up q) (down q)) in
    minus (d *ℤ (m -ℤ q *ℤ e)) (n *ℤ e) (e *ℤ (n -ℤ q *ℤ d)) (m *ℤ d) moved h

cancel : (d a b : ℕ) → 0 < d → d * a ≤ d * b → a ≤ b
cancel d a b h le =
    by_lt b a
    (λ lt. let more : d * suc b ≤ d * a = mul-le-mul_left d lt in absurd (omega arith))
    (λ ok. ok)

pub near_again : (n m q : ℤ) (d e : ℕ) → 0 < d → n *ℤ pos e ≡ m *ℤ pos d → IsNear n (pos d) q → IsNear m (pos e) q
near_again n m q d e h same near =
    let a = unsigned_abs (m -ℤ q *ℤ pos e) in
    let b = unsigned_abs (n -ℤ q *ℤ pos d) in
    let even : d * a ≡ e * b =
    sym (unsigned_abs-mul (pos d) (m -ℤ q *ℤ pos e)) ∙ ap unsigned_abs (same_distance n (pos d) m (pos e) q same) ∙ unsigned_abs-mul (pos e) (n -ℤ q *ℤ pos d) in
    let scaled : e * (2 * b) ≤ e * d = mul-le-mul_left e near in
    cancel d (2 * a) e h (omega arith)

nearest_again : (n m : ℤ) (d e : ℕ) → 0 < d → 0 < e → n *ℤ pos e ≡ m *ℤ pos d → nearest_of n (pos d) ≡ nearest_of m (pos e)
nearest_again n m d e hd he same =
    let q = nearest_of n (pos d) in
    let isq = nearest_of-IsNearest n (pos d) (omega (arith, ints)) in
    one_nearest m (pos e) q (nearest_of m (pos e)) (omega (arith, ints))
    (record {
      near = near_again n m q d e hd same isq.near;
      farthest = λ other near. isq.farthest other (near_again m n other e d he (sym same) near);
    })
    (nearest_of-IsNearest m (pos e) (omega (arith, ints)))

pub nearest_same : (n d m e : ℤ) → pos 0 <ℤ d → pos 0 <ℤ e → n *ℤ e ≡ m *ℤ d → nearest_of n d ≡ nearest_of m e
nearest_same n (pos d) m (pos e) hd he same = nearest_again n m d e (omega (arith, ints)) (omega (arith, ints)) same
nearest_same n (negsuc d) m e hd he same = absurd (omega (arith, ints))
nearest_same n (pos d) m (negsuc e) hd he same = absurd (omega (arith, ints))

-- a quotient that is at most k has a nearest number that is
nearest_most : (n : ℤ) (d k : ℕ) → 0 < d → unsigned_abs n ≤ k * d → unsigned_abs (nearest_of n (pos d)) ≤ k
nearest_most n d k h le =
    let q = nearest_of n (pos d) in
    let isq = nearest_of-IsNearest n (pos d) (omega (arith, ints)) in
    let near : 2 * unsigned_abs (n -ℤ q *ℤ pos d) ≤ d = isq.near in
    let size = unsigned_abs-mul q (pos d) in
    by_lt k (unsigned_abs q)
    (λ lt. let more : suc k * d ≤ unsigned_abs q * d = mul-le-mul_right d lt in absurd (omega (arith, ints)))
    (λ ok. ok)

pub nearest_of-most : (n d : ℤ) (k : ℕ) → pos 0 <ℤ d → unsigned_abs n ≤ k * unsigned_abs d → unsigned_abs (nearest_of n d) ≤ k
nearest_of-most n (pos d) k h le = nearest_most n d k (omega (arith, ints)) le
nearest_of-most n (negsuc d) k h le = absurd (omega (arith, ints))
