-- Pairs that are kept.
use Rattle.std.proofs.Common.{◌≡◌, ℕ, zero, suc, ◌+◌, ◌-◌, ◌^◌, ◌<◌, ◌≤◌, ℤ, pos, ◌-ℤ◌, ◌<ℤ◌, unsigned_abs, int_lt, nat_lt, Bool, true, false, ◌||◌, cond, Option, Some, None, List, [], ◌∷◌, ◌++◌, length, drop, length-append, length-drop, refl, ap, sym, ◌∙◌, arith}
use Rattle.std.proofs.lemmas.Int.{ints}
use Rattle.std.proofs.lemmas.Bool.{false≢true}
use Rattle.lk_base.specs.Ranges.{IsWithinLimit}
use Rattle.link_hostfilter.specs.Fit.{newest_of}
use Rattle.link_hostfilter.specs.Kept.{last, is_far, first_far, with_new, Reaches, ReachesAll, AreNear, AreWithin}
use Rattle.link_hostfilter.specs.declared.pair.Pair.{Pair}
use Rattle.link_hostfilter.proofs.NearLemmas.{by_lt}

-- ---- the last of a list

drop_none : {A : Type 0} (n : ℕ) (xs : List A) → n ≡ 0 → drop n xs ≡ xs
drop_none n xs e = ap (λ k. drop k xs) e

drop_one : {A : Type 0} (n : ℕ) (x : A) (xs : List A) → n ≡ 1 → drop n (x ∷ xs) ≡ xs
drop_one n x xs e = ap (λ k. drop k (x ∷ xs)) e

pub last_few : {A : Type 0} (n : ℕ) (xs : List A) → length xs ≤ n → last n xs ≡ xs
unfolding last
last_few n xs few = drop_none (length xs - n) xs (omega arith)

pub last_full : {A : Type 0} (n : ℕ) (x : A) (xs : List A) → length xs ≡ n → last n (x ∷ xs) ≡ xs
unfolding last
last_full n x xs full = drop_one (length (x ∷ xs) - n) x xs (omega arith)

pub with_new-few : (new : Pair) (pairs : List Pair) → length pairs ≤ 511 → with_new new pairs ≡ pairs ++ new ∷ []
unfolding with_new
with_new-few new pairs few = last_few 512 (pairs ++ new ∷ []) (simp length-append (omega arith))

pub with_new-full : (new pair : Pair) (pairs : List Pair) → length pairs ≡ 511 → with_new new (pair ∷ pairs) ≡ pairs ++ new ∷ []
unfolding with_new
with_new-full new pair pairs full = last_full 512 pair (pairs ++ new ∷ []) (simp length-append (omega arith))

drop_push : {A : Type 0} (n : ℕ) (xs : List A) (x : A) → n ≤ length xs → drop n (xs ++ x ∷ []) ≡ drop n xs ++ x ∷ []
drop_push zero xs x le = refl
drop_push (suc n) [] x le = absurd (omega arith)
drop_push (suc n) (y ∷ xs) x le = drop_push n xs x (omega arith)

drop_more : {A : Type 0} (n : ℕ) (xs : List A) → n < length xs → drop 1 (drop n xs) ≡ drop (suc n) xs
drop_more n [] lt = absurd (omega arith)
drop_more zero (x ∷ xs) lt = refl
drop_more (suc n) (x ∷ xs) lt = drop_more n xs (omega arith)

pub last_again : (new : Pair) (pairs : List Pair) → with_new new (last 512 pairs) ≡ with_new new pairs
unfolding with_new last
last_again new pairs =
    by_lt 512 (length pairs)
    (λ lt.
    let n = length pairs - 512 in
    let len : length (drop n pairs ++ new ∷ []) ≡ 513 = simp (length-append, length-drop) (omega arith) in
    let len_all : length (pairs ++ new ∷ []) ≡ length pairs + 1 = simp length-append in
    let one : length (drop n pairs ++ new ∷ []) - 512 ≡ 1 = omega arith in
    let more : length (pairs ++ new ∷ []) - 512 ≡ suc n = omega arith in
    ap (λ k. drop k (drop n pairs ++ new ∷ [])) one
    ∙ ap (λ xs. drop 1 xs) (sym (drop_push n pairs new (omega arith)))
    ∙ drop_more n (pairs ++ new ∷ []) (omega arith)
    ∙ sym (ap (λ k. drop k (pairs ++ new ∷ [])) more))
    (λ le.
    let whole : drop (length pairs - 512) pairs ≡ pairs = drop_none (length pairs - 512) pairs (omega arith) in
    ap (λ xs. drop (length (xs ++ new ∷ []) - 512) (xs ++ new ∷ [])) whole)

-- ---- a later pair that isn't far

unfoldable pub AllReach : List Pair → Pair → Type 0
AllReach [] new = Unit {0}
AllReach (pair ∷ pairs) new = Reaches pair new × AllReach pairs new

unfoldable pub AllBelow : List Pair → ℤ → Type 0
AllBelow [] sample = Unit {0}
AllBelow (pair ∷ pairs) sample = (pair.sample <ℤ sample) × AllBelow pairs sample

pub below_newest : (pairs : List Pair) (sample : ℤ) → 0 < length pairs → AreNear pairs → (newest_of pairs).sample <ℤ sample → AllBelow pairs sample
unfolding newest_of AllBelow AreNear ReachesAll
below_newest [] sample some near lt = absurd (omega arith)
below_newest (pair ∷ []) sample some near lt = (lt, tt)
below_newest (pair ∷ next ∷ pairs) sample some near lt =
    let rest = below_newest (next ∷ pairs) sample (omega arith) near.1 lt in
    let rises = near.0.0.rises in
    (omega (arith, ints, rest.0), rest)

nat_le_of : (a b : ℕ) → nat_lt a b ≡ false → b ≤ a
nat_le_of a b e = grind arith

or_first : (a b : Bool) → (a || b) ≡ false → (a ≡ false) × (b ≡ false)
or_first true b e = absurd (false≢true (sym e))
or_first false b e = (refl, e)

not_far_by : (pair new : Pair) → pair.sample <ℤ new.sample → (int_lt (pos (2 ^ 31)) (new.sample -ℤ pair.sample) ≡ false) × (nat_lt (2 ^ 31) (unsigned_abs (new.host -ℤ pair.host)) ≡ false) → Reaches pair new
not_far_by pair new lt e =
    let near = e.0 in
    record { rises = lt; near = omega (arith, ints); alike = nat_le_of (2 ^ 31) (unsigned_abs (new.host -ℤ pair.host)) e.1 }

not_far : (new pair : Pair) → pair.sample <ℤ new.sample → is_far new pair ≡ false → Reaches pair new
unfolding is_far
not_far new pair lt e = not_far_by pair new lt (or_first (int_lt (pos (2 ^ 31)) (new.sample -ℤ pair.sample)) (nat_lt (2 ^ 31) (unsigned_abs (new.host -ℤ pair.host))) e)

none_far_by : (b : Bool) (pair : Pair) (rest : Option Pair) → cond b (Some pair) rest ≡ None → (b ≡ false) × (rest ≡ None)
none_far_by true pair rest e = absurd (cc)
none_far_by false pair rest e = (refl, e)

pub none_far : (new : Pair) (pairs : List Pair) → AllBelow pairs new.sample → first_far new pairs ≡ None → AllReach pairs new
unfolding first_far AllBelow AllReach
none_far new [] below none = tt
none_far new (pair ∷ pairs) below none =
    let split = none_far_by (is_far new pair) pair (first_far new pairs) none in
    (not_far new pair below.0 split.0, none_far new pairs below.1 split.1)

reaches_push : (base new : Pair) (pairs : List Pair) → ReachesAll base pairs → Reaches base new → ReachesAll base (pairs ++ new ∷ [])
unfolding ReachesAll
reaches_push base new [] all one = (one, tt)
reaches_push base new (pair ∷ pairs) all one = (all.0, reaches_push base new pairs all.1 one)

pub near_push : (new : Pair) (pairs : List Pair) → AreNear pairs → AllReach pairs new → AreNear (pairs ++ new ∷ [])
unfolding AreNear AllReach ReachesAll
near_push new [] near reach = (tt, tt)
near_push new (pair ∷ pairs) near reach = (reaches_push pair new pairs near.0 reach.0, near_push new pairs near.1 reach.1)

pub within_push : (new : Pair) (pairs : List Pair) → AreWithin pairs → IsWithinLimit new.sample → IsWithinLimit new.host → AreWithin (pairs ++ new ∷ [])
unfolding AreWithin
within_push new [] all sample host = (sample, host, tt)
within_push new (pair ∷ pairs) all sample host = (all.0, all.1, within_push new pairs all.2 sample host)
