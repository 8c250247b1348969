-- The line that fits, and other lines.
use Rattle.std.proofs.Common.{◌≡◌, ◌<◌, ℤ, pos, ◌+ℤ◌, ◌-ℤ◌, ◌*ℤ◌, ◌≤ℤ◌, List, [], ◌∷◌, length, ap, sym, ◌∙◌, arith}
use Rattle.std.proofs.lemmas.Int.{ints}
use Rattle.link_hostfilter.specs.Totals.{total}
use Rattle.link_hostfilter.specs.Fit.{Fits, above, above_times_sample, above_squared, IsNoFarther, newest_of}
use Rattle.link_hostfilter.specs.declared.line.Line.{Line}
use Rattle.link_hostfilter.specs.declared.pair.Pair.{Pair}
use Rattle.link_hostfilter.proofs.RingLemmas.{other_line, squared, square_of_times, by_line}
use Rattle.link_hostfilter.proofs.TotalLemmas.{total-same, total-add, total-times, square-low, squares-low, no_square}

-- x ≡ p + y + q and y ≡ a + b give x ≡ (p + q) + (a + b)
sums : (x p y q a b : ℤ) → x ≡ p +ℤ y +ℤ q → y ≡ a +ℤ b → x ≡ (p +ℤ q) +ℤ (a +ℤ b)
sums x p y q a b e f = omega (arith, ints)

times_zero : (a : ℤ) → a *ℤ pos 0 ≡ pos 0
times_zero a = omega (arith, ints)

joined : (x y z p q n c o t d : ℤ) → x ≡ y → y ≡ z → z ≡ p +ℤ q → p ≡ n +ℤ c → q ≡ o +ℤ t → n ≡ d → o ≡ pos 0 → t ≡ pos 0 → x ≡ d +ℤ c
joined x y z p q n c o t d a b e f g h i j = omega (arith, ints)

low_sum : (x a b : ℤ) → x ≡ a +ℤ b → pos 0 ≤ℤ b → a ≤ℤ x
low_sum x a b e low = omega (arith, ints)

-- how far one line lies above another, times both units
unfoldable pub between : Line → Line → Pair → ℤ
between line other pair =
    (other.unit *ℤ line.at_zero -ℤ line.unit *ℤ other.at_zero)
    +ℤ (other.unit *ℤ line.rise -ℤ line.unit *ℤ other.rise) *ℤ pair.sample

abbrev pub twice_low : Line → Line → ℤ
twice_low line other = (other.unit +ℤ other.unit) *ℤ (other.unit *ℤ line.at_zero -ℤ line.unit *ℤ other.at_zero)

abbrev pub twice_rise : Line → Line → ℤ
twice_rise line other = (other.unit +ℤ other.unit) *ℤ (other.unit *ℤ line.rise -ℤ line.unit *ℤ other.rise)

-- at one pair
split_at : (line other : Line) (pair : Pair)
    → (line.unit *ℤ line.unit) *ℤ above_squared other pair
    ≡ (((other.unit *ℤ other.unit) *ℤ above_squared line pair +ℤ between line other pair *ℤ between line other pair)
    +ℤ (twice_low line other *ℤ above line pair +ℤ twice_rise line other *ℤ above_times_sample line pair))
unfolding above above_squared above_times_sample between
split_at line other pair =
    let r = line.unit *ℤ pair.host -ℤ line.at_zero -ℤ line.rise *ℤ pair.sample in
    let s = other.unit *ℤ pair.host -ℤ other.at_zero -ℤ other.rise *ℤ pair.sample in
    let a = other.unit *ℤ line.at_zero -ℤ line.unit *ℤ other.at_zero in
    let b = other.unit *ℤ line.rise -ℤ line.unit *ℤ other.rise in
    let c = a +ℤ b *ℤ pair.sample in
    let k = other.unit +ℤ other.unit in
    let moved : line.unit *ℤ s ≡ other.unit *ℤ r +ℤ c =
    other_line line.unit line.at_zero line.rise other.unit other.at_zero other.rise pair.sample pair.host in
    let whole : (line.unit *ℤ line.unit) *ℤ (s *ℤ s) ≡ (other.unit *ℤ other.unit) *ℤ (r *ℤ r) +ℤ k *ℤ (r *ℤ c) +ℤ c *ℤ c =
    sym (square_of_times line.unit s) ∙ ap (λ z. z *ℤ z) moved ∙ squared other.unit r c in
    let parts : k *ℤ (r *ℤ c) ≡ (k *ℤ a) *ℤ r +ℤ (k *ℤ b) *ℤ (r *ℤ pair.sample) = by_line k a b r pair.sample in
    sums ((line.unit *ℤ line.unit) *ℤ (s *ℤ s)) ((other.unit *ℤ other.unit) *ℤ (r *ℤ r)) (k *ℤ (r *ℤ c)) (c *ℤ c) ((k *ℤ a) *ℤ r) ((k *ℤ b) *ℤ (r *ℤ pair.sample)) whole parts

-- the squares of another line are those of a line that fits, and those between the two
pub squares_split : (pairs : List Pair) (line other : Line) → Fits pairs line
    → (line.unit *ℤ line.unit) *ℤ total (above_squared other) pairs
    ≡ (other.unit *ℤ other.unit) *ℤ total (above_squared line) pairs +ℤ total (λ pair. between line other pair *ℤ between line other pair) pairs
squares_split pairs line other fits =
    let e = line.unit *ℤ line.unit in
    let d = other.unit *ℤ other.unit in
    let low = twice_low line other in
    let rise = twice_rise line other in
    let c = λ (pair : Pair). between line other pair *ℤ between line other pair in
    let near = λ (pair : Pair). d *ℤ above_squared line pair in
    let one = λ (pair : Pair). low *ℤ above line pair in
    let two = λ (pair : Pair). rise *ℤ above_times_sample line pair in
    let same = total-same (λ pair. e *ℤ above_squared other pair) (λ pair. (near pair +ℤ c pair) +ℤ (one pair +ℤ two pair)) pairs (split_at line other) in
    let none : low *ℤ total (above line) pairs ≡ low *ℤ pos 0 = ap (λ z. low *ℤ z) fits.balanced in
    let none_too : rise *ℤ total (above_times_sample line) pairs ≡ rise *ℤ pos 0 = ap (λ z. rise *ℤ z) fits.balanced_by_sample in
    let zero_low : low *ℤ pos 0 ≡ pos 0 = times_zero low in
    let zero_rise : rise *ℤ pos 0 ≡ pos 0 = times_zero rise in
    joined (e *ℤ total (above_squared other) pairs) (total (λ pair. e *ℤ above_squared other pair) pairs) (total (λ pair. (near pair +ℤ c pair) +ℤ (one pair +ℤ two pair)) pairs)
    (total (λ pair. near pair +ℤ c pair) pairs) (total (λ pair. one pair +ℤ two pair) pairs) (total near pairs) (total c pairs) (total one pairs) (total two pairs) (d *ℤ total (above_squared line) pairs)
    (sym (total-times e (above_squared other) pairs)) same
    (total-add (λ pair. near pair +ℤ c pair) (λ pair. one pair +ℤ two pair) pairs)
    (total-add near c pairs) (total-add one two pairs)
    (total-times d (above_squared line) pairs)
    (total-times low (above line) pairs ∙ none ∙ zero_low)
    (total-times rise (above_times_sample line) pairs ∙ none_too ∙ zero_rise)

pub no_farther : (pairs : List Pair) (line other : Line) → Fits pairs line → IsNoFarther pairs line other
no_farther pairs line other fits =
    let split = squares_split pairs line other fits in
    let low = squares-low (between line other) pairs in
    low_sum ((line.unit *ℤ line.unit) *ℤ total (above_squared other) pairs) ((other.unit *ℤ other.unit) *ℤ total (above_squared line) pairs) (total (λ pair. between line other pair *ℤ between line other pair) pairs) split low

-- ---- two lines that fit have the same value at the newest pair

pub newest_none : (f : Pair → ℤ) (pairs : List Pair) → 0 < length pairs → total (λ pair. f pair *ℤ f pair) pairs ≡ pos 0 → f (newest_of pairs) ≡ pos 0
unfolding total newest_of
newest_none f [] some e = absurd (omega arith)
newest_none f (pair ∷ []) some e = no_square (f pair) (omega (arith, ints))
newest_none f (pair ∷ next ∷ pairs) some e =
    let rest = squares-low f (next ∷ pairs) in
    let here = square-low (f pair) in
    newest_none f (next ∷ pairs) (omega arith) (omega (arith, ints))
