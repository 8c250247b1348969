-- The offset of some points: the order doesn't matter, and points near twice a number give one near it.
use Rattle.std.proofs.Common.{◌≡◌, ℕ, ◌*◌, ◌^◌, ◌<◌, List, [], ◌∷◌, ℤ, pos, ◌+ℤ◌, ◌-ℤ◌, ◌≤ℤ◌, unsigned_abs, length, All, IsPermutation, refl, sym, ap, ◌∙◌, arith}
use Rattle.std.proofs.lemmas.Int.{ints, clamps}
use Rattle.std.proofs.lemmas.List.Sorted.{length_permutation}
use Rattle.lk_base.specs.Ranges.{IsWithin}
use Rattle.lk_base.specs.Rounding.{clipped_of, nearest_of}
use Rattle.lk_base.proofs.RoundingLemmas.{nearest_of-IsNearest}
use Rattle.ghost_xform.specs.Rank.{HasRank, IsAbout, IsOffsetOf, ranked_in, offset_of, lower_middle, upper_middle}
use Rattle.ghost_xform.proofs.RankLemmas.{HasRank-Contains, HasRank-IsPermutation, one_rank, ranked_in-HasRank}

-- the middle ranks are below the length
pub lower_middle-lt : (n : ℕ) → 0 < n → lower_middle n < n
lower_middle-lt n h = omega arith

pub upper_middle-lt : (n : ℕ) → 0 < n → upper_middle n < n
upper_middle-lt n h = omega arith

-- what all elements are, the value of a rank is
pub rank_within : (c r : ℤ) (xs : List ℤ) (rank : ℕ) (x : ℤ) → HasRank xs rank x → All (IsAbout c r) xs → IsAbout c r x
rank_within c r xs rank x is all =
    let at = HasRank-Contains xs rank x is in
    rw (at.2) at (all at.0 x at.1)

-- a quarter of the sum of two points near twice a number
pub quarter_near : (c r a b : ℤ) → IsWithin (2 ^ 60) c → IsAbout c r a → IsAbout c r b
    → pos (2 * unsigned_abs (clipped_of (nearest_of (a +ℤ b) (pos 4)) -ℤ c)) ≤ℤ (r +ℤ pos 1)
quarter_near c r a b within isa isb =
    let is = nearest_of-IsNearest (a +ℤ b) (pos 4) (omega (arith, ints)) in
    let near = is.near in
    let lowa = isa.low in
    let higha = isa.high in
    let lowb = isb.low in
    let highb = isb.high in
    omega (arith, ints, clamps)

-- two middle values give the offset
pub offset_from : (xs : List ℤ) (lower upper : ℤ) → 0 < length xs → HasRank xs (lower_middle (length xs)) lower
    → HasRank xs (upper_middle (length xs)) upper → clipped_of (nearest_of (lower +ℤ upper) (pos 4)) ≡ offset_of xs
unfolding offset_of
offset_from xs lower upper h islower isupper =
    let n = length xs in
    let isranked_low = ranked_in-HasRank xs (lower_middle n) (lower_middle-lt n h) in
    let isranked_up = ranked_in-HasRank xs (upper_middle n) (upper_middle-lt n h) in
    let low = one_rank xs (lower_middle n) lower (ranked_in xs (lower_middle n)) islower isranked_low in
    let up = one_rank xs (upper_middle n) upper (ranked_in xs (upper_middle n)) isupper isranked_up in
    ap (λ a. clipped_of (nearest_of (a +ℤ upper) (pos 4))) low
    ∙ ap (λ b. clipped_of (nearest_of (ranked_in xs (lower_middle n) +ℤ b) (pos 4))) up

pub offset_of-IsOffsetOf : (xs : List ℤ) → 0 < length xs → IsOffsetOf xs (offset_of xs)
unfolding offset_of
offset_of-IsOffsetOf xs h =
    let n = length xs in
    record {
      lower = ranked_in xs (lower_middle n);
      upper = ranked_in xs (upper_middle n);
      lower_rank = ranked_in-HasRank xs (lower_middle n) (lower_middle-lt n h);
      upper_rank = ranked_in-HasRank xs (upper_middle n) (upper_middle-lt n h);
      quarter = refl;
    }

-- Points that are all about twice c give an offset near it.
pub offset_of-near : (c r : ℤ) (xs : List ℤ) → 0 < length xs → IsWithin (2 ^ 60) c → All (IsAbout c r) xs
    → pos (2 * unsigned_abs (offset_of xs -ℤ c)) ≤ℤ (r +ℤ pos 1)
offset_of-near c r xs h within all =
    let is = offset_of-IsOffsetOf xs h in
    rw (is.quarter)
    (quarter_near c r is.lower is.upper within (rank_within c r xs _ _ is.lower_rank all) (rank_within c r xs _ _ is.upper_rank all))

-- one rank's value in two orders of a list
same_rank : (xs ys : List ℤ) (r : ℕ) → IsPermutation xs ys → r < length xs → length ys ≡ length xs
    → ranked_in xs r ≡ ranked_in ys r
same_rank xs ys r moved h e =
    one_rank xs r (ranked_in xs r) (ranked_in ys r) (ranked_in-HasRank xs r h)
    (HasRank-IsPermutation xs ys r (ranked_in ys r) moved (ranked_in-HasRank ys r (omega arith)))

pub offset_of-permutation : (xs ys : List ℤ) → IsPermutation xs ys → offset_of xs ≡ offset_of ys
unfolding offset_of
offset_of-permutation [] [] moved = refl
offset_of-permutation [] (y ∷ ys) moved = absurd (omega (arith, length_permutation [] (y ∷ ys) moved))
offset_of-permutation (x ∷ xs) ys moved =
    let n = length (x ∷ xs) in
    let same = length_permutation (x ∷ xs) ys moved in
    let low = same_rank (x ∷ xs) ys (lower_middle n) moved (lower_middle-lt n (omega arith)) same in
    let up = same_rank (x ∷ xs) ys (upper_middle n) moved (upper_middle-lt n (omega arith)) same in
    ap (λ a. clipped_of (nearest_of (a +ℤ ranked_in (x ∷ xs) (upper_middle n)) (pos 4))) low
    ∙ ap (λ b. clipped_of (nearest_of (ranked_in ys (lower_middle n) +ℤ b) (pos 4))) up
    ∙ ap (λ m. clipped_of (nearest_of (ranked_in ys (lower_middle m) +ℤ ranked_in ys (upper_middle m)) (pos 4))) (sym same)
