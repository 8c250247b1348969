-- The whole number nearest to a quotient, and numbers kept within the limit.
use Rattle.std.specs.Prelude.{ℕ, ℤ, pos, negsuc, ◌+◌, ◌*◌, ◌/◌, ◌^◌, ◌≤◌, ◌-ℤ◌, ◌*ℤ◌, neg_ℤ, unsigned_abs}
use Rattle.std.specs.Int.{int_max, int_min}

-- Rule: A number above 2^60 or below -2^60 is clipped to that limit; any other number stays as it is.
abbrev pub clipped_of : ℤ → ℤ
clipped_of n = int_max (neg_ℤ (pos (2 ^ 60))) (int_min n (pos (2 ^ 60)))

-- twice the distance of n from q times d is at most d
abbrev pub IsNear : ℤ → ℤ → ℤ → Type 0
IsNear n d q = 2 * unsigned_abs (n -ℤ q *ℤ d) ≤ unsigned_abs d

-- q is nearest to n / d: of two such numbers it is the one farther from 0
pub record IsNearest (n d q : ℤ) : Type 0 where
  pub near : IsNear n d q
  pub farthest : (other : ℤ) → IsNear n d other → unsigned_abs other ≤ unsigned_abs q

-- n / d rounded, halves up
unfoldable pub rounded_of : ℕ → ℕ → ℕ
rounded_of n d = (2 * n + d) / (2 * d)

-- the number of this magnitude that is below 0 where n is
abbrev pub signed_of : ℤ → ℕ → ℤ
signed_of (pos _) magnitude = pos magnitude
signed_of (negsuc _) magnitude = neg_ℤ (pos magnitude)

-- Rule: A quotient is rounded to the nearest whole number, and a half away from 0.
unfoldable pub nearest_of : ℤ → ℤ → ℤ
nearest_of n d = signed_of n (rounded_of (unsigned_abs n) (unsigned_abs d))
