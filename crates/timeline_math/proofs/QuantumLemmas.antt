-- Phases and matches: each exists once.
use Rattle.std.proofs.Common.{◌≡◌, ℕ, zero, suc, ◌*◌, ◌/◌, ◌<◌, ℤ, pos, negsuc, ◌+ℤ◌, ◌-ℤ◌, ◌*ℤ◌, ◌<ℤ◌, ◌≤ℤ◌, neg_ℤ, unsigned_abs, refl, ap, sym, ◌∙◌, arith}
use Rattle.std.proofs.lemmas.Int.{ints, by_lt_z}
use Rattle.std.proofs.lemmas.Nat.{mod_below, div-add-mod'}
use Rattle.std.specs.Int.{int_rem_euclid}
use Rattle.lk_base.specs.Rounding.{nearest_of, rounded_of}
use Rattle.lk_base.proofs.RoundingLemmas.{scaled_le, scaled_sum, scaled_neg}
use Rattle.timeline_math.specs.Quantum.{IsPhase, phase_of, IsNextMatch, next_match_of, closest_match_of}

-- two remainders of one number are equal
rest_one : (k l p r : ℤ) (m : ℕ) → (k *ℤ pos m +ℤ p) ≡ (l *ℤ pos m +ℤ r) → pos 0 ≤ℤ p → p <ℤ pos m → pos 0 ≤ℤ r → r <ℤ pos m → p ≡ r
rest_one k l p r m e plow phigh rlow rhigh =
    by_lt_z k l
    (λ lt. let apart = scaled_le k l 1 m (omega (arith, ints)) in absurd (omega (arith, ints)))
    (λ ge.
    by_lt_z l k
    (λ lt. let apart = scaled_le l k 1 m (omega (arith, ints)) in absurd (omega (arith, ints)))
    (λ le.
    let same : k ≡ l = omega (arith, ints) in
    let scaled : k *ℤ pos m ≡ l *ℤ pos m = ap (λ z. z *ℤ pos m) same in
    omega (arith, ints)))

-- the phase is from 0 up, and below the quantum
pub phase_of-low : (x q : ℤ) → pos 0 ≤ℤ phase_of x q
unfolding phase_of
phase_of-low x (pos zero) = omega (arith, ints)
phase_of-low (pos a) (pos (suc m)) = omega (arith, ints)
phase_of-low (negsuc a) (pos (suc m)) = omega (arith, ints)
phase_of-low x (negsuc m) = omega (arith, ints)

pub phase_of-below : (x q : ℤ) → pos 0 <ℤ q → phase_of x q <ℤ q
unfolding phase_of
phase_of-below x (pos zero) h = absurd (omega (arith, ints))
phase_of-below (pos a) (pos (suc m)) h = omega (arith, ints, mod_below a (suc m) (omega arith))
phase_of-below (negsuc a) (pos (suc m)) h = omega (arith, ints)
phase_of-below x (negsuc m) h = absurd (omega (arith, ints))

pub phase_of-free : (x q : ℤ) → q ≡ pos 0 → phase_of x q ≡ pos 0
unfolding phase_of
phase_of-free x (pos zero) h = refl
phase_of-free x (pos (suc m)) h = absurd (omega (arith, ints))
phase_of-free x (negsuc m) h = refl

pub phase_of-high : (x q : ℤ) → pos 0 ≤ℤ q → phase_of x q ≤ℤ q
phase_of-high x q h =
    by_lt_z (pos 0) q
    (λ lt. omega (arith, ints, phase_of-below x q lt))
    (λ le. omega (arith, ints, phase_of-free x q (omega (arith, ints))))

-- the quantum divides what is left
pub phase_of-divides : (x : ℤ) (m : ℕ) → 0 < m → (k : ℤ) × (x ≡ k *ℤ pos m +ℤ phase_of x (pos m))
unfolding phase_of
phase_of-divides x zero h = absurd (omega arith)
phase_of-divides (pos a) (suc m) h = (pos (a / suc m), omega (arith, ints, div-add-mod' a (suc m)))
phase_of-divides (negsuc a) (suc m) h =
    (negsuc (a / suc m), omega (arith, ints, div-add-mod' a (suc m), mod_below a (suc m) (omega arith)))

pub phase_of-rest : (x q : ℤ) → pos 0 <ℤ q → phase_of x q ≡ int_rem_euclid x q
unfolding phase_of
phase_of-rest x (pos zero) h = absurd (omega (arith, ints))
phase_of-rest x (pos (suc m)) h = refl
phase_of-rest x (negsuc m) h = absurd (omega (arith, ints))

pub phase_of-IsPhase : (x q : ℤ) → pos 0 ≤ℤ q → IsPhase x q (phase_of x q)
phase_of-IsPhase x (pos m) h = record {
  free = phase_of-free x (pos m);
  within = λ lt. (phase_of-low x (pos m), phase_of-below x (pos m) lt);
  divides = λ lt. phase_of-divides x m (omega (arith, ints));
}
phase_of-IsPhase x (negsuc m) h = absurd (omega (arith, ints))

-- a number has one phase
pub one_phase : (x q p r : ℤ) → pos 0 ≤ℤ q → IsPhase x q p → IsPhase x q r → p ≡ r
one_phase x (pos zero) p r h isp isr = isp.free refl ∙ sym (isr.free refl)
one_phase x (pos (suc m)) p r h isp isr =
    let lt : pos 0 <ℤ pos (suc m) = omega (arith, ints) in
    let byp = isp.divides lt in
    let byr = isr.divides lt in
    let inp = isp.within lt in
    let inr = isr.within lt in
    rest_one byp.0 byr.0 p r (suc m) (sym byp.1 ∙ byr.1) inp.0 inp.1 inr.0 inr.1
one_phase x (negsuc m) p r h isp isr = absurd (omega (arith, ints))

-- a number that is divided with a rest below the quantum has that rest as its phase
pub phase_at : (k p : ℤ) (m : ℕ) → pos 0 ≤ℤ p → p <ℤ pos m → phase_of (k *ℤ pos m +ℤ p) (pos m) ≡ p
phase_at k p m low below =
    let by = phase_of-divides (k *ℤ pos m +ℤ p) m (omega (arith, ints)) in
    let lt : pos 0 <ℤ pos m = omega (arith, ints) in
    sym
    (rest_one k by.0 p (phase_of (k *ℤ pos m +ℤ p) (pos m)) m by.1 low below (phase_of-low (k *ℤ pos m +ℤ p) (pos m)) (phase_of-below (k *ℤ pos m +ℤ p) (pos m) lt))

-- numbers that are a multiple of the quantum apart have one phase
pub same_phase : (x k : ℤ) (m : ℕ) → 0 < m → phase_of (x +ℤ k *ℤ pos m) (pos m) ≡ phase_of x (pos m)
same_phase x k m h =
    let by = phase_of-divides x m h in
    let lt : pos 0 <ℤ pos m = omega (arith, ints) in
    let sum = scaled_sum by.0 k m in
    let e : x +ℤ k *ℤ pos m ≡ (by.0 +ℤ k) *ℤ pos m +ℤ phase_of x (pos m) = omega (arith, ints, by.1) in
    ap (λ z. phase_of z (pos m)) e
    ∙ phase_at (by.0 +ℤ k) (phase_of x (pos m)) m (phase_of-low x (pos m)) (phase_of-below x (pos m) lt)

-- the next match has the phase, and no lesser number has
next_phase : (x y : ℤ) (m : ℕ) → 0 < m → phase_of (x +ℤ phase_of (y -ℤ x) (pos m)) (pos m) ≡ phase_of y (pos m)
next_phase x y m h =
    let by = phase_of-divides (y -ℤ x) m h in
    let back = scaled_neg by.0 m in
    let e : x +ℤ phase_of (y -ℤ x) (pos m) ≡ y +ℤ neg_ℤ by.0 *ℤ pos m = omega (arith, ints, by.1) in
    ap (λ z. phase_of z (pos m)) e ∙ same_phase y (neg_ℤ by.0) m h

next_least : (x y w : ℤ) (m : ℕ) → 0 < m → x ≤ℤ w → phase_of w (pos m) ≡ phase_of y (pos m) → (x +ℤ phase_of (y -ℤ x) (pos m)) ≤ℤ w
next_least x y w m h above same =
    let lt : pos 0 <ℤ pos m = omega (arith, ints) in
    let gap = phase_of-divides (y -ℤ x) m h in
    let byy = phase_of-divides y m h in
    let byw = phase_of-divides w m h in
    let below = phase_of-below (y -ℤ x) (pos m) lt in
    let from = byw.0 +ℤ gap.0 in
    let sum = scaled_sum byw.0 gap.0 m in
    by_lt_z from byy.0
    (λ less. let apart = scaled_le from byy.0 1 m (omega (arith, ints)) in absurd (omega (arith, ints, gap.1, byy.1, byw.1)))
    (λ ge. let apart = scaled_le byy.0 from 0 m (omega (arith, ints)) in omega (arith, ints, gap.1, byy.1, byw.1))

pub next_match_of-IsNextMatch : (x y q : ℤ) → pos 0 ≤ℤ q → IsNextMatch x y q (next_match_of x y q)
unfolding next_match_of
next_match_of-IsNextMatch x y (pos zero) h = record {
  free = λ e. omega (arith, ints, phase_of-free (y -ℤ x) (pos 0) e);
  above = omega (arith, ints, phase_of-low (y -ℤ x) (pos 0));
  phase =
      phase_of-free (x +ℤ phase_of (y -ℤ x) (pos 0)) (pos 0) refl ∙ sym (phase_of-free y (pos 0) refl);
  least = λ lt w above same. absurd (omega (arith, ints));
}
next_match_of-IsNextMatch x y (pos (suc m)) h = record {
  free = λ e. absurd (omega (arith, ints));
  above = omega (arith, ints, phase_of-low (y -ℤ x) (pos (suc m)));
  phase = next_phase x y (suc m) (omega arith);
  least = λ lt w above same. next_least x y w (suc m) (omega arith) above same;
}
next_match_of-IsNextMatch x y (negsuc m) h = absurd (omega (arith, ints))

-- a number has one next match
pub one_next_match : (x y q z w : ℤ) → pos 0 ≤ℤ q → IsNextMatch x y q z → IsNextMatch x y q w → z ≡ w
one_next_match x y q z w h isz isw =
    by_lt_z (pos 0) q
    (λ lt. omega (arith, ints, isz.least lt w isw.above isw.phase, isw.least lt z isz.above isz.phase))
    (λ le. let none : q ≡ pos 0 = omega (arith, ints) in isz.free none ∙ sym (isw.free none))

-- half a quantum, rounded up
pub half-low : (q : ℤ) → pos 0 ≤ℤ q → q ≤ℤ (nearest_of q (pos 2) +ℤ nearest_of q (pos 2))
unfolding nearest_of rounded_of
half-low (pos a) h = omega (arith, ints)
half-low (negsuc a) h = absurd (omega (arith, ints))

pub half-high : (q : ℤ) → pos 0 ≤ℤ q → (nearest_of q (pos 2) +ℤ nearest_of q (pos 2)) ≤ℤ (q +ℤ pos 1)
unfolding nearest_of rounded_of
half-high (pos a) h = omega (arith, ints)
half-high (negsuc a) h = absurd (omega (arith, ints))

-- ---- for answers: what a result is, from the equation that it has
pub phase_from : (x q r : ℤ) → pos 0 ≤ℤ q → r ≡ phase_of x q → IsPhase x q r
phase_from x q r h e = rw e (phase_of-IsPhase x q h)

pub only_phase : (x q r p : ℤ) → pos 0 ≤ℤ q → r ≡ phase_of x q → IsPhase x q p → p ≡ r
only_phase x q r p h e isp = one_phase x q p r h isp (phase_from x q r h e)

pub next_from : (x y q r : ℤ) → pos 0 ≤ℤ q → r ≡ next_match_of x y q → IsNextMatch x y q r
next_from x y q r h e = rw e (next_match_of-IsNextMatch x y q h)

pub only_next : (x y q r z : ℤ) → pos 0 ≤ℤ q → r ≡ next_match_of x y q → IsNextMatch x y q z → z ≡ r
only_next x y q r z h e isz = one_next_match x y q z r h isz (next_from x y q r h e)

pub half_from : (q r : ℤ) → pos 0 ≤ℤ q → (q ≤ℤ (r +ℤ r)) → (r +ℤ r) ≤ℤ (q +ℤ pos 1) → r ≡ nearest_of q (pos 2)
half_from q r h low high = omega (arith, ints, half-low q h, half-high q h)

-- a closest match lies at most half a quantum, rounded up, away
pub closest-near : (x q h z : ℤ) → q ≤ℤ (h +ℤ h) → (h +ℤ h) ≤ℤ (q +ℤ pos 1) → (x -ℤ h) ≤ℤ z → z ≤ℤ (x -ℤ h +ℤ q) → pos (2 * unsigned_abs (z -ℤ x)) ≤ℤ (q +ℤ pos 1)
closest-near x q h z least most low high = omega (arith, ints)

pub closest_match_of-near : (x y q : ℤ) → pos 0 ≤ℤ q → pos (2 * unsigned_abs (closest_match_of x y q -ℤ x)) ≤ℤ (q +ℤ pos 1)
unfolding closest_match_of next_match_of
closest_match_of-near x y q h =
    let half = nearest_of q (pos 2) in
    let gap = y -ℤ (x -ℤ half) in
    closest-near x q half (x -ℤ half +ℤ phase_of gap q) (half-low q h) (half-high q h)
    (omega (arith, ints, phase_of-low gap q))
    (omega (arith, ints, phase_of-high gap q h))

-- a closest match has the phase, in a window as long as the quantum
pub closest_match_of-phase : (x y q : ℤ) → pos 0 ≤ℤ q → phase_of (closest_match_of x y q) q ≡ phase_of y q
unfolding closest_match_of
closest_match_of-phase x y q h = (next_match_of-IsNextMatch (x -ℤ nearest_of q (pos 2)) y q h).phase

pub closest_match_of-low : (x y q : ℤ) → (x -ℤ nearest_of q (pos 2)) ≤ℤ closest_match_of x y q
unfolding closest_match_of next_match_of
closest_match_of-low x y q =
    omega (arith, ints, phase_of-low (y -ℤ (x -ℤ nearest_of q (pos 2))) q)

pub closest_match_of-below : (x y q : ℤ) → pos 0 <ℤ q → closest_match_of x y q <ℤ (x -ℤ nearest_of q (pos 2) +ℤ q)
unfolding closest_match_of next_match_of
closest_match_of-below x y q lt =
    omega (arith, ints, phase_of-below (y -ℤ (x -ℤ nearest_of q (pos 2))) q lt)
