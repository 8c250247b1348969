-- The value of a line that fits, at the newest pair: one for all such lines, and not far.
use Rattle.std.proofs.Common.{◌≡◌, ℕ, ◌+◌, ◌*◌, ◌<◌, ◌≤◌, ℤ, pos, negsuc, ◌+ℤ◌, ◌-ℤ◌, ◌*ℤ◌, ◌≤ℤ◌, unsigned_abs, List, [], ◌∷◌, map, length, refl, ap, sym, ◌∙◌, arith, mul-le-mul}
use Rattle.std.proofs.lemmas.Int.{ints, unsigned_abs-mul}
use borrow.Author.Differences.{up, down}
use native.Mathlib.Nat.{mul-le-mul_left}
use Rattle.link_hostfilter.specs.Totals.{total}
use Rattle.link_hostfilter.specs.Fit.{Fits, above, above_squared, newest_of, oldest_of, seen_from, from_oldest, value_at, IsFiltered}
use Rattle.link_hostfilter.specs.Sums.{host_of}
use Rattle.link_hostfilter.specs.declared.line.Line.{Line}
use Rattle.link_hostfilter.specs.declared.pair.Pair.{Pair}
use Rattle.link_hostfilter.proofs.RingLemmas.{dif, dif_is, same, differences}
use Rattle.link_hostfilter.proofs.TotalLemmas.{total-same, square-low, squares-low}
use Rattle.link_hostfilter.proofs.LineLemmas.{between, squares_split, newest_none, no_farther}
use Rattle.link_hostfilter.proofs.NearLemmas.{by_lt, nearest_same}

-- ---- one value

crossed-dif : (E E' P P' Q Q' e e' p p' q q' u u' : ℕ)
    → (dif e e' *ℤ dif P P' -ℤ dif E E' *ℤ dif p p') +ℤ (dif e e' *ℤ dif Q Q' -ℤ dif E E' *ℤ dif q q') *ℤ dif u u'
    ≡ (dif P P' +ℤ dif Q Q' *ℤ dif u u') *ℤ dif e e' -ℤ (dif p p' +ℤ dif q q' *ℤ dif u u') *ℤ dif E E'
crossed-dif E E' P P' Q Q' e e' p p' q q' u u' = simp differences (same _ _ _ _ (omega arith))

crossed : (E P Q e p q u : ℤ)
    → (e *ℤ P -ℤ E *ℤ p) +ℤ (e *ℤ Q -ℤ E *ℤ q) *ℤ u ≡ (P +ℤ Q *ℤ u) *ℤ e -ℤ (p +ℤ q *ℤ u) *ℤ E
crossed E P Q e p q u =
    simp dif_is at (crossed-dif (up E) (down E) (up P) (down P) (up Q) (down Q) (up e) (down e) (up p) (down p) (up q) (down q) (up u) (down u))

no_difference : (x a b : ℤ) → x ≡ a -ℤ b → x ≡ pos 0 → a ≡ b
no_difference x a b e f = omega (arith, ints)

-- two sums of squares that make up for one another are none
none_between : (x y a b : ℤ) → x ≡ y +ℤ a → y ≡ x +ℤ b → pos 0 ≤ℤ a → pos 0 ≤ℤ b → a ≡ pos 0
none_between x y a b e f low low_too = omega (arith, ints)

value_once : (pairs : List Pair) (line other : Line) → 0 < length pairs → Fits pairs line → Fits pairs other
    → value_at line (newest_of pairs).sample ≡ value_at other (newest_of pairs).sample
unfolding value_at between
value_once pairs line other some fits fits_too =
    let u = (newest_of pairs).sample in
    let none = none_between ((line.unit *ℤ line.unit) *ℤ total (above_squared other) pairs) ((other.unit *ℤ other.unit) *ℤ total (above_squared line) pairs)
    (total (λ pair. between line other pair *ℤ between line other pair) pairs) (total (λ pair. between other line pair *ℤ between other line pair) pairs)
    (squares_split pairs line other fits) (squares_split pairs other line fits_too)
    (squares-low (between line other) pairs) (squares-low (between other line) pairs) in
    let here = newest_none (between line other) pairs some none in
    let even = no_difference (between line other (newest_of pairs)) ((line.at_zero +ℤ line.rise *ℤ u) *ℤ other.unit) ((other.at_zero +ℤ other.rise *ℤ u) *ℤ line.unit)
    (crossed line.unit line.at_zero line.rise other.unit other.at_zero other.rise u) here in
    nearest_same (line.at_zero +ℤ line.rise *ℤ u) line.unit (other.at_zero +ℤ other.rise *ℤ u) other.unit fits.positive fits_too.positive even

-- ---- as seen from the oldest

newest-map : (g : Pair → Pair) (pairs : List Pair) → 0 < length pairs → newest_of (map g pairs) ≡ g (newest_of pairs)
unfolding newest_of
newest-map g [] some = absurd (omega arith)
newest-map g (pair ∷ []) some = refl
newest-map g (pair ∷ next ∷ pairs) some = newest-map g (next ∷ pairs) (omega arith)

map-some : (g : Pair → Pair) (pairs : List Pair) → 0 < length pairs → 0 < length (map g pairs)
map-some g [] some = absurd (omega arith)
map-some g (pair ∷ pairs) some = omega arith

pub newest_sample : (pairs : List Pair) → 0 < length pairs → (newest_of (from_oldest pairs)).sample ≡ (newest_of pairs).sample -ℤ (oldest_of pairs).sample
unfolding seen_from
newest_sample pairs some = ap (λ pair. pair.sample) (newest-map (seen_from (oldest_of pairs)) pairs some)

pub one_value : (pairs : List Pair) (a b : ℤ) → IsFiltered pairs a → IsFiltered pairs b → a ≡ b
one_value pairs a b isa isb =
    let some = isa.some in
    let once = value_once (from_oldest pairs) isa.line isb.line (map-some (seen_from (oldest_of pairs)) pairs some) isa.fits isb.fits in
    let at = newest_sample pairs some in
    isa.value
    ∙ ap (λ u. (oldest_of pairs).host +ℤ value_at isa.line u) (sym at)
    ∙ ap (λ z. (oldest_of pairs).host +ℤ z) once
    ∙ ap (λ u. (oldest_of pairs).host +ℤ value_at isb.line u) at
    ∙ sym isb.value

-- ---- not far

root : (a b : ℕ) → a * a ≤ b * b → a ≤ b
root a b le = by_lt b a (λ lt. let more = mul-le-mul lt lt in absurd (omega arith)) (λ ok. ok)

pub newest-le : (f : Pair → ℤ) (pairs : List Pair) → 0 < length pairs → (f (newest_of pairs) *ℤ f (newest_of pairs)) ≤ℤ total (λ pair. f pair *ℤ f pair) pairs
unfolding total newest_of
newest-le f [] some = absurd (omega arith)
newest-le f (pair ∷ []) some = omega (arith, ints)
newest-le f (pair ∷ next ∷ pairs) some =
    let rest = newest-le f (next ∷ pairs) (omega arith) in
    let low = square-low (f pair) in
    omega (arith, ints)

-- each host time is at most m
unfoldable pub AreLow : ℕ → List Pair → Type 0
AreLow m [] = Unit {0}
AreLow m (pair ∷ pairs) = (unsigned_abs pair.host ≤ m) × AreLow m pairs

square-most : (a : ℤ) (m : ℕ) → unsigned_abs a ≤ m → (a *ℤ a) ≤ℤ pos (m * m)
square-most (pos a) m le = let more = mul-le-mul le le in omega (arith, ints)
square-most (negsuc a) m le = let more = mul-le-mul le le in omega (arith, ints)

pub squares-most : (m : ℕ) (pairs : List Pair) → AreLow m pairs → total (λ pair. host_of pair *ℤ host_of pair) pairs ≤ℤ pos (length pairs * (m * m))
unfolding total AreLow
squares-most m [] low = omega (arith, ints)
squares-most m (pair ∷ pairs) low =
    omega (arith, ints, square-most pair.host m low.0, squares-most m pairs low.1)

pub newest_low : (m : ℕ) (pairs : List Pair) → 0 < length pairs → AreLow m pairs → unsigned_abs (newest_of pairs).host ≤ m
unfolding newest_of AreLow
newest_low m [] some low = absurd (omega arith)
newest_low m (pair ∷ []) some low = low.0
newest_low m (pair ∷ next ∷ pairs) some low = newest_low m (next ∷ pairs) (omega arith) low.1

-- the line at host time 0
abbrev flat : Line
flat = record { at_zero = pos 0; rise = pos 0; unit = pos 1 }

flat-above : (pair : Pair) → above_squared flat pair ≡ host_of pair *ℤ host_of pair
unfolding above_squared above
flat-above pair =
    let here : pos 1 *ℤ pair.host -ℤ pos 0 -ℤ pos 0 *ℤ pair.sample ≡ pair.host = omega (arith, ints) in
    ap (λ z. z *ℤ z) here

-- r * r is at most e * e times n, and n at most k * k
within_root : (r e s : ℤ) (n k : ℕ) → (r *ℤ r) ≤ℤ s → ((pos 1 *ℤ pos 1) *ℤ s) ≤ℤ ((e *ℤ e) *ℤ pos n) → n ≤ k * k → unsigned_abs r ≤ unsigned_abs e * k
within_root r e s n k here all fits =
    let rr = unsigned_abs-mul r r in
    let ee = unsigned_abs-mul e e in
    let een = unsigned_abs-mul (e *ℤ e) (pos n) in
    let low = square-low r in
    let unit : (pos 1 *ℤ pos 1) *ℤ s ≡ s = omega (arith, ints) in
    let most : unsigned_abs r * unsigned_abs r ≤ (unsigned_abs e * unsigned_abs e) * n = omega (arith, ints, ap (λ z. z * n) ee) in
    let more : (unsigned_abs e * unsigned_abs e) * n ≤ (unsigned_abs e * unsigned_abs e) * (k * k) = mul-le-mul_left (unsigned_abs e * unsigned_abs e) fits in
    root (unsigned_abs r) (unsigned_abs e * k) (omega arith)

apart_most : (a b c : ℤ) (m k n : ℕ) → b ≡ a -ℤ c → unsigned_abs a ≤ m → unsigned_abs c ≤ k → m + k ≤ n → unsigned_abs b ≤ n
apart_most a b c m k n e x y z = omega (arith, ints)

three : (a p w : ℤ) → p +ℤ w ≡ a -ℤ (a -ℤ p -ℤ w)
three a p w = omega (arith, ints)

times_le : (e a b : ℤ) → pos 0 ≤ℤ e → a ≤ℤ b → (e *ℤ a) ≤ℤ (e *ℤ b)
times_le (pos e) a b low le =
    let more : e * (up a + down b) ≤ e * (up b + down a) = mul-le-mul_left e (omega (arith, ints)) in
    omega (arith, ints)
times_le (negsuc e) a b low le = absurd (omega (arith, ints))

bounded : (x e a b : ℤ) (n : ℕ) → x ≤ℤ (e *ℤ a) → a ≡ b → b ≤ℤ pos n → pos 0 ≤ℤ e → x ≤ℤ (e *ℤ pos n)
bounded x e a b n le same most low =
    let more = times_le e a (pos n) low (omega (arith, ints)) in
    omega (arith, ints)

-- the value is the host time less the distance
near_host : (e p q u v : ℤ) (m k : ℕ) → unsigned_abs v ≤ m → unsigned_abs (e *ℤ v -ℤ p -ℤ q *ℤ u) ≤ unsigned_abs e * k → unsigned_abs (p +ℤ q *ℤ u) ≤ (m + k) * unsigned_abs e
near_host e p q u v m k low near =
    let size = unsigned_abs-mul e v in
    let most : unsigned_abs e * unsigned_abs v ≤ unsigned_abs e * m = mul-le-mul_left (unsigned_abs e) low in
    apart_most (e *ℤ v) (p +ℤ q *ℤ u) (e *ℤ v -ℤ p -ℤ q *ℤ u) (unsigned_abs e * m) (unsigned_abs e * k) ((m + k) * unsigned_abs e) (three (e *ℤ v) p (q *ℤ u)) (omega arith) near (omega arith)

pub value-most : (m k : ℕ) (pairs : List Pair) (line : Line) → 0 < length pairs → AreLow m pairs → length pairs * (m * m) ≤ k * k → Fits pairs line
    → unsigned_abs (line.at_zero +ℤ line.rise *ℤ (newest_of pairs).sample) ≤ (m + k) * unsigned_abs line.unit
unfolding above above_squared
value-most m k pairs line some low fits_k fits =
    let newest = newest_of pairs in
    let r = line.unit *ℤ newest.host -ℤ line.at_zero -ℤ line.rise *ℤ newest.sample in
    let s = total (above_squared line) pairs in
    let n = length pairs * (m * m) in
    let here : (r *ℤ r) ≤ℤ s = newest-le (above line) pairs some in
    let hosts = squares-most m pairs low in
    let flats = total-same (above_squared flat) (λ pair. host_of pair *ℤ host_of pair) pairs flat-above in
    let farther = no_farther pairs line flat fits in
    let all : ((pos 1 *ℤ pos 1) *ℤ s) ≤ℤ ((line.unit *ℤ line.unit) *ℤ pos n) =
    bounded ((pos 1 *ℤ pos 1) *ℤ s) (line.unit *ℤ line.unit) (total (above_squared flat) pairs) (total (λ pair. host_of pair *ℤ host_of pair) pairs) n farther flats hosts (square-low line.unit) in
    near_host line.unit line.at_zero line.rise newest.sample newest.host m k (newest_low m pairs some low)
    (within_root r line.unit s n k here all fits_k)
