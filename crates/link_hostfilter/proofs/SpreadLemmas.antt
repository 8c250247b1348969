-- Totals of a line, and the line of five sums.
use Rattle.std.proofs.Common.{◌≡◌, ℕ, zero, suc, ◌+◌, ℤ, pos, negsuc, ◌+ℤ◌, ◌-ℤ◌, ◌*ℤ◌, ◌≤ℤ◌, ◌<ℤ◌, List, [], ◌∷◌, length, ap, sym, ◌∙◌, arith}
use Rattle.std.proofs.lemmas.Int.{ints}
use Rattle.link_hostfilter.specs.Totals.{total}
use Rattle.link_hostfilter.specs.Fit.{Fits, above, above_times_sample}
use Rattle.link_hostfilter.specs.Sums.{sample_of, host_of, square_of, product_of}
use Rattle.link_hostfilter.specs.declared.line.Line.{Line}
use Rattle.link_hostfilter.specs.declared.pair.Pair.{Pair}
use Rattle.link_hostfilter.proofs.RingLemmas.{times_sum, above_sample, balance, balance_sample, apart_squared, spread_more}
use Rattle.link_hostfilter.proofs.TotalLemmas.{squares-low}

-- one more term
more_above : (n : ℕ) (e v p q u E V P Q U : ℤ) → E ≡ e *ℤ V -ℤ pos n *ℤ p -ℤ q *ℤ U
    → (e *ℤ v -ℤ p -ℤ q *ℤ u) +ℤ E ≡ e *ℤ (v +ℤ V) -ℤ pos (suc n) *ℤ p -ℤ q *ℤ (u +ℤ U)
more_above n e v p q u E V P Q U h = omega (arith, ints, times_sum e v V, times_sum q u U)

pub total-above : (line : Line) (pairs : List Pair)
    → total (above line) pairs ≡ line.unit *ℤ total host_of pairs -ℤ pos (length pairs) *ℤ line.at_zero -ℤ line.rise *ℤ total sample_of pairs
unfolding total above
total-above line [] = omega (arith, ints)
total-above line (pair ∷ pairs) =
    more_above (length pairs) line.unit pair.host line.at_zero line.rise pair.sample (total (above line) pairs) (total host_of pairs) (pos 0) (pos 0) (total sample_of pairs) (total-above line pairs)

more_products : (e w p u q s E W U S : ℤ) → E ≡ e *ℤ W -ℤ p *ℤ U -ℤ q *ℤ S
    → (e *ℤ w -ℤ p *ℤ u -ℤ q *ℤ s) +ℤ E ≡ e *ℤ (w +ℤ W) -ℤ p *ℤ (u +ℤ U) -ℤ q *ℤ (s +ℤ S)
more_products e w p u q s E W U S h = omega (arith, ints, times_sum e w W, times_sum p u U, times_sum q s S)

pub total-above-sample : (line : Line) (pairs : List Pair)
    → total (above_times_sample line) pairs ≡ line.unit *ℤ total product_of pairs -ℤ line.at_zero *ℤ total sample_of pairs -ℤ line.rise *ℤ total square_of pairs
unfolding total above above_times_sample square_of product_of
total-above-sample line [] = omega (arith, ints)
total-above-sample line (pair ∷ pairs) =
    ap (λ z. z +ℤ total (above_times_sample line) pairs) (above_sample line.unit line.at_zero line.rise pair.sample pair.host)
    ∙ more_products line.unit (pair.sample *ℤ pair.host) line.at_zero pair.sample line.rise (pair.sample *ℤ pair.sample) (total (above_times_sample line) pairs) (total product_of pairs) (total sample_of pairs) (total square_of pairs) (total-above-sample line pairs)

-- the line of five sums
abbrev pub line_of_sums : ℕ → ℤ → ℤ → ℤ → ℤ → Line
line_of_sums n u v s t = record {
  at_zero = v *ℤ s -ℤ u *ℤ t;
  rise = pos n *ℤ t -ℤ u *ℤ v;
  unit = pos n *ℤ s -ℤ u *ℤ u;
}

pub sums-fit : (pairs : List Pair) → pos 0 <ℤ (pos (length pairs) *ℤ total square_of pairs -ℤ total sample_of pairs *ℤ total sample_of pairs)
    → Fits pairs (line_of_sums (length pairs) (total sample_of pairs) (total host_of pairs) (total square_of pairs) (total product_of pairs))
sums-fit pairs positive =
    let n = length pairs in
    let u = total sample_of pairs in
    let v = total host_of pairs in
    let s = total square_of pairs in
    let t = total product_of pairs in
    let line = line_of_sums n u v s t in
    record {
      positive = positive;
      balanced = total-above line pairs ∙ balance n u v s t;
      balanced_by_sample = total-above-sample line pairs ∙ balance_sample n u v s t;
    }

-- ---- the unit is positive where samples differ
unfoldable pub spread : List Pair → ℤ
spread pairs = pos (length pairs) *ℤ total square_of pairs -ℤ total sample_of pairs *ℤ total sample_of pairs

unfoldable pub apart_from : ℤ → Pair → ℤ
apart_from x pair = pair.sample -ℤ x

one_more : (n : ℕ) (a : ℤ) → pos (suc n) *ℤ a ≡ a +ℤ pos n *ℤ a
one_more n a = omega (arith, ints)

more_apart_by : (ss xs xx xU both nxx more d S T : ℤ) → d ≡ ss -ℤ xs +ℤ xx → T ≡ S -ℤ xU +ℤ nxx → both ≡ xs +ℤ xU → more ≡ xx +ℤ nxx → d +ℤ T ≡ (ss +ℤ S) -ℤ both +ℤ more
more_apart_by ss xs xx xU both nxx more d S T a b e f = omega (arith, ints)

more_apart : (n : ℕ) (x s d S U T : ℤ) → d ≡ s *ℤ s -ℤ (x +ℤ x) *ℤ s +ℤ x *ℤ x → T ≡ S -ℤ (x +ℤ x) *ℤ U +ℤ pos n *ℤ (x *ℤ x)
    → d +ℤ T ≡ (s *ℤ s +ℤ S) -ℤ (x +ℤ x) *ℤ (s +ℤ U) +ℤ pos (suc n) *ℤ (x *ℤ x)
more_apart n x s d S U T e f = more_apart_by (s *ℤ s) ((x +ℤ x) *ℤ s) (x *ℤ x) ((x +ℤ x) *ℤ U) ((x +ℤ x) *ℤ (s +ℤ U)) (pos n *ℤ (x *ℤ x)) (pos (suc n) *ℤ (x *ℤ x)) d S T e f (times_sum (x +ℤ x) s U) (one_more n (x *ℤ x))

total-apart : (x : ℤ) (pairs : List Pair)
    → total (λ pair. apart_from x pair *ℤ apart_from x pair) pairs ≡ total square_of pairs -ℤ (x +ℤ x) *ℤ total sample_of pairs +ℤ pos (length pairs) *ℤ (x *ℤ x)
unfolding total square_of apart_from
total-apart x [] = omega (arith, ints)
total-apart x (pair ∷ pairs) =
    more_apart (length pairs) x pair.sample ((pair.sample -ℤ x) *ℤ (pair.sample -ℤ x)) (total square_of pairs) (total sample_of pairs) (total (λ pair. apart_from x pair *ℤ apart_from x pair) pairs)
    (apart_squared x pair.sample) (total-apart x pairs)

one_and : (n : ℕ) → suc n ≡ 1 + n
one_and n = omega arith

spread-cons : (pair : Pair) (pairs : List Pair) → spread (pair ∷ pairs) ≡ spread pairs +ℤ total (λ other. apart_from pair.sample other *ℤ apart_from pair.sample other) pairs
unfolding spread total square_of
spread-cons pair pairs =
    ap (λ k. pos k *ℤ (pair.sample *ℤ pair.sample +ℤ total square_of pairs) -ℤ (pair.sample +ℤ total sample_of pairs) *ℤ (pair.sample +ℤ total sample_of pairs)) (one_and (length pairs))
    ∙ spread_more (length pairs) (total sample_of pairs) (total square_of pairs) pair.sample
    ∙ ap (λ z. (pos (length pairs) *ℤ total square_of pairs -ℤ total sample_of pairs *ℤ total sample_of pairs) +ℤ z) (sym (total-apart pair.sample pairs))

spread-none : pos 0 ≤ℤ spread []
unfolding spread total
spread-none = omega (arith, ints)

pub spread-low : (pairs : List Pair) → pos 0 ≤ℤ spread pairs
spread-low [] = spread-none
spread-low (pair ∷ pairs) =
    let rest = spread-low pairs in
    let more = squares-low (apart_from pair.sample) pairs in
    omega (arith, ints, spread-cons pair pairs)

square-positive : (a : ℤ) → pos 0 <ℤ a → pos 0 <ℤ (a *ℤ a)
square-positive (pos zero) h = absurd (omega (arith, ints))
square-positive (pos (suc a)) h = omega (arith, ints)
square-positive (negsuc a) h = absurd (omega (arith, ints))

pub spread-positive : (pair next : Pair) (pairs : List Pair) → pair.sample <ℤ next.sample → pos 0 <ℤ spread (pair ∷ next ∷ pairs)
unfolding total apart_from
spread-positive pair next pairs lt =
    let rest = spread-low (next ∷ pairs) in
    let more = squares-low (apart_from pair.sample) pairs in
    let here = square-positive (next.sample -ℤ pair.sample) (omega (arith, ints)) in
    omega (arith, ints, spread-cons pair (next ∷ pairs))
