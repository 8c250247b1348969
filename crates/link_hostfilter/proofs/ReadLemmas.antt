-- Numbers as the machine reads them.
use Rattle.std.proofs.Common.{◌≡◌, ℕ, ℤ, pos, ◌*◌, ◌^◌, ◌<◌, ◌≤◌, ◌+ℤ◌, ◌-ℤ◌, ◌*ℤ◌, unsigned_abs, FitsSigned, to_z, of_z, w64, ap, ◌∙◌, arith, mul-le-mul}
use Rattle.std.proofs.lemmas.Int.{ints, to_z-of_z, unsigned_abs-mul}
use Rattle.std.specs.Int.Signed.{mag}
use mir.Syntax.{w128}

pub read : (z : ℤ) → unsigned_abs z ≤ 2 ^ 115 → to_z w128 (of_z w128 z) ≡ z
read z h = let fits : FitsSigned w128 z = omega (arith, ints) in to_z-of_z w128 z fits

pub read_short : (z : ℤ) → unsigned_abs z ≤ 2 ^ 62 → to_z w64 (of_z w64 z) ≡ z
read_short z h = let fits : FitsSigned w64 z = omega (arith, ints) in to_z-of_z w64 z fits

pub product_most : (a b : ℤ) (m n : ℕ) → unsigned_abs a ≤ m → unsigned_abs b ≤ n → unsigned_abs (a *ℤ b) ≤ m * n
product_most a b m n h k =
    let most = mul-le-mul h k in
    omega (arith, unsigned_abs-mul a b)

pub product_read : (a b : ℤ) (m n : ℕ) → unsigned_abs a ≤ m → unsigned_abs b ≤ n → m ≤ 2 ^ 115 → n ≤ 2 ^ 115 → m * n ≤ 2 ^ 115
    → to_z w128 (of_z w128 (to_z w128 (of_z w128 a) *ℤ to_z w128 (of_z w128 b))) ≡ a *ℤ b
product_read a b m n h k x y z =
    let most = product_most a b m n h k in
    ap (λ p. to_z w128 (of_z w128 (p *ℤ to_z w128 (of_z w128 b)))) (read a (omega arith))
    ∙ ap (λ p. to_z w128 (of_z w128 (a *ℤ p))) (read b (omega arith))
    ∙ read (a *ℤ b) (omega arith)

pub product_kept : (a b : ℤ) (m n k : ℕ) → unsigned_abs a ≤ m → unsigned_abs b ≤ n → m ≤ 2 ^ 115 → n ≤ 2 ^ 115 → m * n ≤ 2 ^ 115 → m * n ≤ k
    → unsigned_abs (to_z w128 (of_z w128 (to_z w128 (of_z w128 a) *ℤ to_z w128 (of_z w128 b)))) ≤ k
product_kept a b m n k h g x y z le =
    let same = ap unsigned_abs (product_read a b m n h g x y z) in
    let most = product_most a b m n h g in
    omega arith

pub count_read : (n : ℕ) → n ≤ 512 → to_z w64 n ≡ pos n
count_read n h = omega (arith, ints)

-- ---- what was found by numbers as the machine reads them

-- a number of its type
read_typed : (z : ℤ) → mag z < 2 ^ 127 → to_z w128 (of_z w128 z) ≡ z
read_typed z h = let fits : FitsSigned w128 z = omega (arith, ints) in to_z-of_z w128 z fits

pub product_is : (a b p : ℤ) → unsigned_abs a ≤ 2 ^ 115 → unsigned_abs b ≤ 2 ^ 115
    → p ≡ to_z w128 (of_z w128 a) *ℤ to_z w128 (of_z w128 b) → p ≡ a *ℤ b
product_is a b p h k e = let x = read a h in let y = read b k in (cc)

-- the first factor is short, the second one, or both
pub short_product_is : (a b p : ℤ) → unsigned_abs a ≤ 2 ^ 62 → unsigned_abs b ≤ 2 ^ 115
    → p ≡ to_z w64 (of_z w64 a) *ℤ to_z w128 (of_z w128 b) → p ≡ a *ℤ b
short_product_is a b p h k e = let x = read_short a h in let y = read b k in (cc)

pub scaled_is : (a b p : ℤ) → unsigned_abs a ≤ 2 ^ 115 → unsigned_abs b ≤ 2 ^ 62
    → p ≡ to_z w128 (of_z w128 a) *ℤ to_z w64 (of_z w64 b) → p ≡ a *ℤ b
scaled_is a b p h k e = let x = read a h in let y = read_short b k in (cc)

pub both_short_is : (a b p : ℤ) → unsigned_abs a ≤ 2 ^ 62 → unsigned_abs b ≤ 2 ^ 62
    → p ≡ to_z w64 (of_z w64 a) *ℤ to_z w64 (of_z w64 b) → p ≡ a *ℤ b
both_short_is a b p h k e = let x = read_short a h in let y = read_short b k in (cc)

-- the difference of two numbers that were found, and a sum
pub difference_read : (p q d a b : ℤ) → mag p < 2 ^ 127 → mag q < 2 ^ 127 → mag d < 2 ^ 127
    → p ≡ a → q ≡ b → d ≡ to_z w128 (of_z w128 p) -ℤ to_z w128 (of_z w128 q) → to_z w128 (of_z w128 d) ≡ a -ℤ b
difference_read p q d a b hp hq hd is_p is_q e = let x = read_typed p hp in let y = read_typed q hq in let z = read_typed d hd in (cc)

pub sum_read : (a q d b : ℤ) → unsigned_abs a ≤ 2 ^ 115 → mag q < 2 ^ 127 → mag d < 2 ^ 127
    → q ≡ b → d ≡ to_z w128 (of_z w128 a) +ℤ to_z w128 (of_z w128 q) → to_z w128 (of_z w128 d) ≡ a +ℤ b
sum_read a q d b ha hq hd is_q e = let x = read a ha in let y = read_typed q hq in let z = read_typed d hd in (cc)

pub short_sum_read : (a b d : ℤ) → unsigned_abs a ≤ 2 ^ 115 → unsigned_abs b ≤ 2 ^ 62 → mag d < 2 ^ 127
    → d ≡ to_z w128 (of_z w128 a) +ℤ to_z w128 (of_z w128 (to_z w64 (of_z w64 b))) → to_z w128 (of_z w128 d) ≡ a +ℤ b
short_sum_read a b d ha hb hd e =
    let x = read a ha in
    let y = read_short b hb in
    let w = read b (omega arith) in
    let z = read_typed d hd in
    (cc)

-- moved by so many times as much
pub shifted_read : (a n b d : ℤ) → unsigned_abs a ≤ 2 ^ 115 → unsigned_abs n ≤ 2 ^ 62 → unsigned_abs b ≤ 2 ^ 62 → mag d < 2 ^ 127
    → d ≡ to_z w128 (of_z w128 a) -ℤ to_z w64 (of_z w64 n) *ℤ to_z w64 (of_z w64 b) → to_z w128 (of_z w128 d) ≡ a -ℤ n *ℤ b
shifted_read a n b d ha hn hb hd e =
    let x = read a ha in
    let y = read_short n hn in
    let w = read_short b hb in
    let z = read_typed d hd in
    (cc)

-- without two numbers that were found
pub without_read : (a p q d u v : ℤ) → unsigned_abs a ≤ 2 ^ 115 → mag p < 2 ^ 127 → mag q < 2 ^ 127 → mag d < 2 ^ 127
    → p ≡ u → q ≡ v → d ≡ to_z w128 (of_z w128 a) -ℤ to_z w128 (of_z w128 p) -ℤ to_z w128 (of_z w128 q)
    → to_z w128 (of_z w128 d) ≡ a -ℤ u -ℤ v
without_read a p q d u v ha hp hq hd is_p is_q e =
    let x = read a ha in
    let y = read_typed p hp in
    let w = read_typed q hq in
    let z = read_typed d hd in
    (cc)

-- the bound of a number that was found
pub within_read : (d : ℤ) (m : ℕ) → mag d < 2 ^ 127 → unsigned_abs d ≤ m → unsigned_abs (to_z w128 (of_z w128 d)) ≤ m
within_read d m h le = rw (read_typed d h) le
