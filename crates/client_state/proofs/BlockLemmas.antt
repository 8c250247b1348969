-- The clicks of a block at or after a time are those of the part of it that begins there.
use Rattle.std.proofs.Common.{◌≡◌, ℕ, zero, suc, ◌+◌, ℤ, pos, ◌+ℤ◌, ◌-ℤ◌, ◌<ℤ◌, ◌≤ℤ◌, int_le, unsigned_abs, Bool, true, false, cond, List, ◌∷◌, filter, refl, ap, sym, ◌∙◌, arith}
use Rattle.std.proofs.lemmas.Int.{ints, clamps, by_lt_z}
use Rattle.std.specs.Int.{int_max, int_min}
use Rattle.lk_base.specs.declared.timeline.Timeline.{Timeline}
use Rattle.lk_base.specs.declared.block.Click.{Click}
use Rattle.timeline_math.specs.Clicks.{clicks_at, click_at, clicks_from}

-- an element that may be there, and is kept or dropped
kept_if : {X : Type 0} (test : X → Bool) (b : Bool) (x : X) (xs ys : List X) → test x ≡ true → filter test xs ≡ ys → filter test (cond b (x ∷ xs) xs) ≡ cond b (x ∷ ys) ys
kept_if test true x xs ys passes rest = ap (λ b. cond b (x ∷ filter test xs) (filter test xs)) passes ∙ ap (λ zs. x ∷ zs) rest
kept_if test false x xs ys passes rest = rest

dropped_if : {X : Type 0} (test : X → Bool) (b : Bool) (x : X) (xs ys : List X) → test x ≡ false → filter test xs ≡ ys → filter test (cond b (x ∷ xs) xs) ≡ ys
dropped_if test true x xs ys fails rest = ap (λ b. cond b (x ∷ filter test xs) (filter test xs)) fails ∙ rest
dropped_if test false x xs ys fails rest = rest

abbrev from_start : ℤ → Click → Bool
from_start start click = int_le start click.at

at_or_after : (tl : Timeline) (q start time : ℤ) → start ≤ℤ time → from_start start (click_at tl q time) ≡ true
unfolding click_at
at_or_after tl q start time le = let e : true ≡ int_le start time = omega (arith, ints) in sym e

before : (tl : Timeline) (q start time : ℤ) → time <ℤ start → from_start start (click_at tl q time) ≡ false
unfolding click_at
before tl q start time lt = let e : false ≡ int_le start time = omega (arith, ints) in sym e

all_kept : (tl : Timeline) (q start time : ℤ) (n : ℕ) → start ≤ℤ time → filter (from_start start) (clicks_from tl q time n) ≡ clicks_from tl q time n
unfolding clicks_from
all_kept tl q start time zero le = refl
all_kept tl q start time (suc n) le =
    kept_if (from_start start) (clicks_at tl time) (click_at tl q time) (clicks_from tl q (time +ℤ pos 1) n) (clicks_from tl q (time +ℤ pos 1) n)
    (at_or_after tl q start time le)
    (all_kept tl q start (time +ℤ pos 1) n (omega (arith, ints)))

-- n microseconds are passed over, and r are left
rest_kept : (tl : Timeline) (q start time : ℤ) (n r m : ℕ) → m ≡ n + r → (time +ℤ pos n) ≤ℤ start → filter (from_start start) (clicks_from tl q time m) ≡ filter (from_start start) (clicks_from tl q (time +ℤ pos n) r)
unfolding clicks_from
rest_kept tl q start time zero r m e le =
    let here : time ≡ time +ℤ pos 0 = omega (arith, ints) in
    let same : m ≡ r = omega arith in
    ap (λ t. filter (from_start start) (clicks_from tl q t m)) here
    ∙ ap (λ k. filter (from_start start) (clicks_from tl q (time +ℤ pos 0) k)) same
rest_kept tl q start time (suc n) r m e le =
    let more : m ≡ suc (n + r) = omega arith in
    let along : time +ℤ pos 1 +ℤ pos n ≡ time +ℤ pos (suc n) = omega (arith, ints) in
    ap (λ k. filter (from_start start) (clicks_from tl q time k)) more
    ∙ dropped_if (from_start start) (clicks_at tl time) (click_at tl q time) (clicks_from tl q (time +ℤ pos 1) (n + r)) (filter (from_start start) (clicks_from tl q (time +ℤ pos 1) (n + r)))
    (before tl q start time (omega (arith, ints)))
    refl
    ∙ rest_kept tl q start (time +ℤ pos 1) n r (n + r) refl (omega (arith, ints))
    ∙ ap (λ t. filter (from_start start) (clicks_from tl q t r)) along

-- a block from the start on, or one of no length
end_kept : (tl : Timeline) (q start from : ℤ) (r : ℕ) → (from <ℤ start → r ≡ 0) → filter (from_start start) (clicks_from tl q from r) ≡ clicks_from tl q from r
unfolding clicks_from
end_kept tl q start from r none =
    by_lt_z from start
    (λ lt. ap (λ k. filter (from_start start) (clicks_from tl q from k)) (none lt) ∙ sym (ap (clicks_from tl q from) (none lt)))
    (λ le. all_kept tl q start from r le)

-- the part begins at the start, or at the nearest end of the block
pub part_kept : (tl : Timeline) (q start begin length from rest : ℤ) → pos 0 ≤ℤ length → from ≡ int_max begin (int_min start (begin +ℤ length)) → rest ≡ begin +ℤ length -ℤ from → filter (from_start start) (clicks_from tl q begin (unsigned_abs length)) ≡ clicks_from tl q from (unsigned_abs rest)
part_kept tl q start begin length from rest low from_is rest_is =
    by_lt_z begin start
    (λ lt.
    let n = unsigned_abs (from -ℤ begin) in
    let r = unsigned_abs rest in
    let whole : unsigned_abs length ≡ n + r = omega (arith, ints, clamps) in
    let there : begin +ℤ pos n ≡ from = omega (arith, ints, clamps) in
    let kept = rest_kept tl q start begin n r (unsigned_abs length) whole (omega (arith, ints, clamps)) in
    kept
    ∙ ap (λ t. filter (from_start start) (clicks_from tl q t r)) there
    ∙ end_kept tl q start from r (λ after. omega (arith, ints, clamps)))
    (λ le.
    let same : begin ≡ from = omega (arith, ints, clamps) in
    let whole : unsigned_abs length ≡ unsigned_abs rest = omega (arith, ints, clamps) in
    all_kept tl q start begin (unsigned_abs length) le
    ∙ ap (λ t. clicks_from tl q t (unsigned_abs length)) same
    ∙ ap (clicks_from tl q from) whole)
