-- The element of a rank in a list, and the offset that points tell.
use Rattle.std.specs.Prelude.{◌≡◌, ℕ, ℤ, pos, ◌-◌, ◌/◌, ◌<◌, ◌≤◌, ◌+ℤ◌, ◌-ℤ◌, ◌≤ℤ◌, int_lt, int_le, nat_lt, nat_le, Bool, ◌&&◌, List, length, count_by, unwrap_or}
use Rattle.std.specs.List.{find}
use Rattle.lk_base.specs.Rounding.{clipped_of, nearest_of}

-- At most r elements are less than x, and more than r are at most x.
pub record HasRank (xs : List ℤ) (r : ℕ) (x : ℤ) : Type 0 where
  pub less : count_by (λ e. int_lt e x) xs ≤ r
  pub at_most : r < count_by (λ e. int_le e x) xs

-- the same as a test
abbrev pub has_rank : List ℤ → ℕ → ℤ → Bool
has_rank xs r x = nat_le (count_by (λ e. int_lt e x) xs) r && nat_lt r (count_by (λ e. int_le e x) xs)

-- the element of that rank, 0 where there is none
unfoldable pub ranked_in : List ℤ → ℕ → ℤ
ranked_in xs r = unwrap_or (find (has_rank xs r) xs) (pos 0)

-- Rule: Of an even number of points the median is the mean of the two middle ones.
-- the middle ranks of so many elements: an odd number has one
abbrev pub lower_middle : ℕ → ℕ
lower_middle n = (n - 1) / 2

abbrev pub upper_middle : ℕ → ℕ
upper_middle n = n / 2

-- Rule: The offset of a session is the median of the points of its measurement, which are in half microseconds; it is rounded and clipped.
-- The two middle points are twice twice the offset: a quarter of their sum, rounded and clipped.
unfoldable pub offset_of : List ℤ → ℤ
offset_of xs =
    clipped_of (nearest_of (ranked_in xs (lower_middle (length xs)) +ℤ ranked_in xs (upper_middle (length xs))) (pos 4))

-- the same as a relation
pub record IsOffsetOf (xs : List ℤ) (offset : ℤ) : Type 0 where
  pub lower : ℤ
  pub upper : ℤ
  pub lower_rank : HasRank xs (lower_middle (length xs)) lower
  pub upper_rank : HasRank xs (upper_middle (length xs)) upper
  pub quarter : offset ≡ clipped_of (nearest_of (lower +ℤ upper) (pos 4))

-- at most r from twice c
pub record IsAbout (c r x : ℤ) : Type 0 where
  pub low : (c +ℤ c -ℤ r) ≤ℤ x
  pub high : x ≤ℤ (c +ℤ c +ℤ r)
