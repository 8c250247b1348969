-- Phases within a quantum, and the beats that match one.
use Rattle.std.specs.Prelude.{◌≡◌, zero, suc, ℤ, pos, negsuc, ◌+ℤ◌, ◌-ℤ◌, ◌*ℤ◌, ◌<ℤ◌, ◌≤ℤ◌}
use Rattle.std.specs.Int.{int_rem_euclid}
use Rattle.lk_base.specs.Rounding.{nearest_of}

-- the one p from 0 up to but not q such that q divides x - p; 0 where q is 0
pub record IsPhase (x q p : ℤ) : Type 0 where
  pub free : q ≡ pos 0 → p ≡ pos 0
  pub within : pos 0 <ℤ q → (pos 0 ≤ℤ p) × (p <ℤ q)
  pub divides : pos 0 <ℤ q → (k : ℤ) × (x ≡ k *ℤ q +ℤ p)

-- Rule: The phase of a beat is how far it is past the last multiple of the quantum, for beats below 0 too; with the quantum 0 it is 0.
unfoldable pub phase_of : ℤ → ℤ → ℤ
phase_of x (pos zero) = pos 0
phase_of x (pos (suc q)) = int_rem_euclid x (pos (suc q))
phase_of x (negsuc q) = pos 0

-- the least number at or above x with the phase of y; x where q is 0
pub record IsNextMatch (x y q z : ℤ) : Type 0 where
  pub free : q ≡ pos 0 → z ≡ x
  pub above : x ≤ℤ z
  pub phase : phase_of z q ≡ phase_of y q
  pub least : pos 0 <ℤ q → (w : ℤ) → x ≤ℤ w → phase_of w q ≡ phase_of y q → z ≤ℤ w

-- Rule: The next match of a beat is the least beat at or above it that has the phase of the target.
unfoldable pub next_match_of : ℤ → ℤ → ℤ → ℤ
next_match_of x y q = x +ℤ phase_of (y -ℤ x) q

-- Rule: The closest match of a beat is the next match of the beat half a quantum, rounded up, before it.
unfoldable pub closest_match_of : ℤ → ℤ → ℤ → ℤ
closest_match_of x y q = next_match_of (x -ℤ nearest_of q (pos 2)) y q
