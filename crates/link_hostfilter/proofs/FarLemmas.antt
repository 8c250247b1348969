-- Which pairs are far from a new one: by looks at each, and by the ends alone.
use Rattle.std.proofs.Common.{◌≡◌, ℕ, zero, suc, ◌+◌, ◌-◌, ◌^◌, ◌<◌, ◌≤◌, ℤ, pos, ◌-ℤ◌, ◌≤ℤ◌, unsigned_abs, int_lt, int_le, nat_lt, Bool, true, false, ◌||◌, cond, Option, Some, None, List, [], ◌∷◌, ◌++◌, length, take, drop, slice_index_or, refl, ap, sym, subst, ◌∙◌, add-one, arith}
use Rattle.std.proofs.lemmas.Int.{ints}
use Rattle.std.proofs.lemmas.List.{take_rest}
use Rattle.lk_base.specs.Ranges.{IsWithinLimit}
use Rattle.link_hostfilter.specs.Fit.{newest_of, oldest_of}
use Rattle.link_hostfilter.specs.Kept.{last, is_far, first_far, is_late, ReachesAll, AreNear, AreWithin}
use Rattle.link_hostfilter.specs.Span.{AreAmong}
use Rattle.link_hostfilter.specs.declared.pair.Pair.{Pair}
use Rattle.link_hostfilter.specs.declared.span.Span.{Span}

-- ---- one pair

pub far_by_host : (new pair : Pair) (n : ℕ) → (new.sample -ℤ pair.sample) ≤ℤ pos (2 ^ 31) → n ≡ unsigned_abs (new.host -ℤ pair.host) → nat_lt (2 ^ 31) n ≡ is_far new pair
unfolding is_far
far_by_host new pair n le e =
    let low : int_lt (pos (2 ^ 31)) (new.sample -ℤ pair.sample) ≡ false = grind (arith, ints) in
    ap (λ k. nat_lt (2 ^ 31) k) e ∙ sym (ap (λ b. b || nat_lt (2 ^ 31) (unsigned_abs (new.host -ℤ pair.host))) low)

not_far : (new pair : Pair) → (new.sample -ℤ pair.sample) ≤ℤ pos (2 ^ 31) → unsigned_abs (new.host -ℤ pair.host) ≤ 2 ^ 31 → is_far new pair ≡ false
not_far new pair le near =
    let same : nat_lt (2 ^ 31) (unsigned_abs (new.host -ℤ pair.host)) ≡ false = grind arith in
    sym (far_by_host new pair (unsigned_abs (new.host -ℤ pair.host)) le refl) ∙ same

-- ---- a look at each

pub newest_is : (n : ℕ) (pairs : List Pair) (d : Pair) → suc n ≡ length pairs → slice_index_or pairs n d ≡ newest_of pairs
unfolding newest_of
newest_is n [] d e = absurd (omega arith)
newest_is zero (pair ∷ []) d e = refl
newest_is (suc n) (pair ∷ []) d e = absurd (omega arith)
newest_is zero (pair ∷ next ∷ pairs) d e = absurd (omega arith)
newest_is (suc n) (pair ∷ next ∷ pairs) d e = newest_is n (next ∷ pairs) d (omega arith)

pub late_some : (new : Pair) (pairs : List Pair) → 0 < length pairs → is_late new pairs ≡ int_le new.sample (newest_of pairs).sample
unfolding is_late
late_some new [] some = absurd (omega arith)
late_some new (pair ∷ pairs) some = refl

pub late_none : (new : Pair) (pairs : List Pair) → length pairs ≡ 0 → is_late new pairs ≡ false
unfolding is_late
late_none new [] none = refl
late_none new (pair ∷ pairs) none = absurd (omega arith)

pub within_at : (i : ℕ) (pairs : List Pair) (d : Pair) → i < length pairs → AreWithin pairs → IsWithinLimit (slice_index_or pairs i d).sample × IsWithinLimit (slice_index_or pairs i d).host
unfolding AreWithin
within_at i [] d lt within = absurd (omega arith)
within_at zero (pair ∷ pairs) d lt within = (within.0, within.1)
within_at (suc i) (pair ∷ pairs) d lt within = within_at i pairs d (omega arith) within.2

far_if : (b : Bool) (pair : Pair) (rest : Option Pair) → b ≡ true → cond b (Some pair) rest ≡ Some pair
far_if true pair rest e = refl
far_if false pair rest e = absurd (cc)

far_unless : (b : Bool) (pair : Pair) (rest : Option Pair) → b ≡ false → cond b (Some pair) rest ≡ rest
far_unless true pair rest e = absurd (cc)
far_unless false pair rest e = refl

pub far_here : (new : Pair) (i : ℕ) (pairs : List Pair) (d : Pair) → i < length pairs → is_far new (slice_index_or pairs i d) ≡ true → first_far new (drop i pairs) ≡ Some (slice_index_or pairs i d)
unfolding first_far
far_here new i [] d lt far = absurd (omega arith)
far_here new zero (pair ∷ pairs) d lt far = far_if (is_far new pair) pair (first_far new pairs) far
far_here new (suc i) (pair ∷ pairs) d lt far = far_here new i pairs d (omega arith) far

far_next : (new : Pair) (i : ℕ) (pairs : List Pair) (d : Pair) → i < length pairs → is_far new (slice_index_or pairs i d) ≡ false → first_far new (drop i pairs) ≡ first_far new (drop (suc i) pairs)
unfolding first_far
far_next new i [] d lt far = absurd (omega arith)
far_next new zero (pair ∷ pairs) d lt far = far_unless (is_far new pair) pair (first_far new pairs) far
far_next new (suc i) (pair ∷ pairs) d lt far = far_next new i pairs d (omega arith) far

pub far_later : (new : Pair) (i : ℕ) (pairs : List Pair) (d : Pair) → i < length pairs → is_far new (slice_index_or pairs i d) ≡ false → first_far new (drop i pairs) ≡ first_far new (drop (i + 1) pairs)
far_later new i pairs d lt far = far_next new i pairs d lt far ∙ ap (λ k. first_far new (drop k pairs)) (sym (add-one i))

pub far_none : (new : Pair) (i : ℕ) (pairs : List Pair) → length pairs ≤ i → first_far new (drop i pairs) ≡ None
unfolding first_far
far_none new zero [] le = refl
far_none new (suc i) [] le = refl
far_none new zero (pair ∷ pairs) le = absurd (omega arith)
far_none new (suc i) (pair ∷ pairs) le = far_none new i pairs (omega arith)

-- ---- by the ends alone

near_host : (a h low high : ℤ) (n : ℕ) → low ≤ℤ h → h ≤ℤ high → unsigned_abs (a -ℤ low) ≤ n → unsigned_abs (a -ℤ high) ≤ n → unsigned_abs (a -ℤ h) ≤ n
near_host a h low high n b c d e = omega (arith, ints)

far_rest : (new base : Pair) (pairs : List Pair) (span : Span) → (new.sample -ℤ base.sample) ≤ℤ pos (2 ^ 31) → unsigned_abs (new.host -ℤ span.low) ≤ 2 ^ 31
    → unsigned_abs (new.host -ℤ span.high) ≤ 2 ^ 31 → ReachesAll base pairs → AreAmong span pairs → first_far new pairs ≡ None
unfolding first_far ReachesAll AreAmong
far_rest new base [] span le low high reach among = refl
far_rest new base (pair ∷ pairs) span le low high reach among =
    let rises = reach.0.rises in
    let near = near_host new.host pair.host span.low span.high (2 ^ 31) among.0 among.1 low high in
    far_unless (is_far new pair) pair (first_far new pairs) (not_far new pair (omega (arith, ints)) near)
    ∙ far_rest new base pairs span le low high reach.1 among.2

pub none_far_from : (new : Pair) (pairs : List Pair) (span : Span) → (0 < length pairs → (new.sample -ℤ (oldest_of pairs).sample) ≤ℤ pos (2 ^ 31))
    → unsigned_abs (new.host -ℤ span.low) ≤ 2 ^ 31 → unsigned_abs (new.host -ℤ span.high) ≤ 2 ^ 31 → AreNear pairs → AreAmong span pairs → first_far new pairs ≡ None
unfolding first_far AreNear AreAmong
none_far_from new [] span le low high near among = refl
none_far_from new (pair ∷ pairs) span le low high near among =
    let here = near_host new.host pair.host span.low span.high (2 ^ 31) among.0 among.1 low high in
    far_unless (is_far new pair) pair (first_far new pairs) (not_far new pair (le (omega arith)) here)
    ∙ far_rest new pair pairs span (le (omega arith)) low high near.0 among.2

-- ---- a wider span

among_next : (span wider : Span) (i : ℕ) (pairs : List Pair) (d : Pair) → i < length pairs → wider.low ≤ℤ span.low → span.high ≤ℤ wider.high
    → wider.low ≤ℤ (slice_index_or pairs i d).host → (slice_index_or pairs i d).host ≤ℤ wider.high → AreAmong span (take i pairs) → AreAmong wider (take (suc i) pairs)
unfolding AreAmong
among_next span wider i [] d lt a b e f among = absurd (omega arith)
among_next span wider zero (pair ∷ pairs) d lt a b e f among = (e, f, tt)
among_next span wider (suc i) (pair ∷ pairs) d lt a b e f among =
    (omega (arith, ints, among.0), omega (arith, ints, among.1), among_next span wider i pairs d (omega arith) a b e f among.2)

pub among_step : (span wider : Span) (i : ℕ) (pairs : List Pair) (d : Pair) → i < length pairs → wider.low ≤ℤ span.low → span.high ≤ℤ wider.high
    → wider.low ≤ℤ (slice_index_or pairs i d).host → (slice_index_or pairs i d).host ≤ℤ wider.high → AreAmong span (take i pairs) → AreAmong wider (take (i + 1) pairs)
among_step span wider i pairs d lt a b e f among =
    subst (λ (k : ℕ). AreAmong wider (take k pairs)) (sym (add-one i)) (among_next span wider i pairs d lt a b e f among)

pub among_all : (span : Span) (i : ℕ) (pairs : List Pair) → length pairs ≤ i → AreAmong span (take i pairs) → AreAmong span pairs
unfolding AreAmong
among_all span i [] le among = tt
among_all span zero (pair ∷ pairs) le among = absurd (omega arith)
among_all span (suc i) (pair ∷ pairs) le among = (among.0, among.1, among_all span i pairs (omega arith) among.2)

pub among_none : (span : Span) (pairs : List Pair) → AreAmong span (take 0 pairs)
unfolding AreAmong
among_none span [] = tt
among_none span (pair ∷ pairs) = tt

pub among_push : (span wider : Span) (pairs : List Pair) (pair : Pair) → wider.low ≤ℤ span.low → span.high ≤ℤ wider.high
    → wider.low ≤ℤ pair.host → pair.host ≤ℤ wider.high → AreAmong span pairs → AreAmong wider (pairs ++ pair ∷ [])
unfolding AreAmong
among_push span wider [] pair a b e f among = (e, f, tt)
among_push span wider (next ∷ pairs) pair a b e f among =
    (omega (arith, ints, among.0), omega (arith, ints, among.1), among_push span wider pairs pair a b e f among.2)

-- what holds of pairs holds without the first so many
pub among_drop : (span : Span) (n : ℕ) (pairs : List Pair) → AreAmong span pairs → AreAmong span (drop n pairs)
unfolding AreAmong
among_drop span zero pairs among = among
among_drop span (suc n) [] among = tt
among_drop span (suc n) (pair ∷ pairs) among = among_drop span n pairs among.2

pub near_drop : (n : ℕ) (pairs : List Pair) → AreNear pairs → AreNear (drop n pairs)
unfolding AreNear
near_drop zero pairs near = near
near_drop (suc n) [] near = tt
near_drop (suc n) (pair ∷ pairs) near = near_drop n pairs near.1

pub within_drop : (n : ℕ) (pairs : List Pair) → AreWithin pairs → AreWithin (drop n pairs)
unfolding AreWithin
within_drop zero pairs within = within
within_drop (suc n) [] within = tt
within_drop (suc n) (pair ∷ pairs) within = within_drop n pairs within.2

-- ---- what the code reads

pub oldest_is : (pairs : List Pair) (d : Pair) → 0 < length pairs → slice_index_or pairs 0 d ≡ oldest_of pairs
oldest_is [] d some = absurd (omega arith)
oldest_is (pair ∷ pairs) d some = refl

pub staying_is : (n : ℕ) (pairs : List Pair) → n ≡ length pairs - 511 → take (length pairs - n) (drop n pairs) ≡ last 511 pairs
unfolding last
staying_is n pairs e = take_rest pairs n ∙ ap (λ k. drop k pairs) e

drop_more : (n : ℕ) (pairs : List Pair) → drop 1 (drop n pairs) ≡ drop (suc n) pairs
drop_more zero pairs = refl
drop_more (suc n) [] = refl
drop_more (suc n) (pair ∷ pairs) = drop_more n pairs

pub drop_next : (n : ℕ) (pairs : List Pair) → drop (n + 1) pairs ≡ drop 1 (drop n pairs)
drop_next n pairs = ap (λ k. drop k pairs) (add-one n) ∙ sym (drop_more n pairs)

pub drop_some : (n : ℕ) (pairs : List Pair) → 0 < length (drop n pairs) → n < length pairs
drop_some zero [] some = absurd (omega arith)
drop_some (suc n) [] some = absurd (omega arith)
drop_some zero (pair ∷ pairs) some = omega arith
drop_some (suc n) (pair ∷ pairs) some = let rest = drop_some n pairs some in omega arith
