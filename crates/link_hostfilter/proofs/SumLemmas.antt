-- The sums of pairs as seen from the oldest: with one more, and without the oldest.
use Rattle.std.proofs.Common.{◌≡◌, ℕ, suc, ◌+◌, ◌*◌, ◌^◌, ◌≤◌, ℤ, pos, ◌+ℤ◌, ◌-ℤ◌, ◌*ℤ◌, unsigned_abs, List, [], ◌∷◌, ◌++◌, map, length, refl, ap, sym, subst, ◌∙◌, arith}
use Rattle.std.proofs.lemmas.Int.{ints}
use borrow.Author.Differences.{up, down}
use Rattle.lk_base.specs.Ranges.{IsWithin}
use Rattle.link_hostfilter.specs.Totals.{total}
use Rattle.link_hostfilter.specs.Fit.{seen_from, oldest_of, from_oldest}
use Rattle.link_hostfilter.specs.Sums.{sample_of, host_of, square_of, product_of, AreSums, AreBounded}
use Rattle.link_hostfilter.specs.Kept.{ReachesAll, AreNear, AreKept}
use Rattle.link_hostfilter.specs.declared.pair.Pair.{Pair}
use Rattle.link_hostfilter.specs.declared.sums.Sums.{Sums}
use Rattle.link_hostfilter.proofs.RingLemmas.{dif, dif_is, pos_is, same, differences}
use Rattle.link_hostfilter.proofs.ReadLemmas.{product_most}
use Rattle.link_hostfilter.proofs.TotalLemmas.{total-push}

-- ---- one more

pub sums_push : (pairs : List Pair) (sums more : Sums) (pair : Pair) → AreSums pairs sums
    → more.samples ≡ sums.samples +ℤ pair.sample → more.hosts ≡ sums.hosts +ℤ pair.host
    → more.squares ≡ sums.squares +ℤ pair.sample *ℤ pair.sample → more.products ≡ sums.products +ℤ pair.sample *ℤ pair.host
    → AreSums (pairs ++ pair ∷ []) more
unfolding square_of product_of
sums_push pairs sums more pair are samples hosts squares products = record {
  samples = samples ∙ ap (λ z. z +ℤ pair.sample) are.samples ∙ sym (total-push sample_of pairs pair);
  hosts = hosts ∙ ap (λ z. z +ℤ pair.host) are.hosts ∙ sym (total-push host_of pairs pair);
  squares = squares ∙ ap (λ z. z +ℤ pair.sample *ℤ pair.sample) are.squares ∙ sym (total-push square_of pairs pair);
  products = products ∙ ap (λ z. z +ℤ pair.sample *ℤ pair.host) are.products ∙ sym (total-push product_of pairs pair);
}

map-push : (g : Pair → Pair) (pairs : List Pair) (pair : Pair) → map g (pairs ++ pair ∷ []) ≡ map g pairs ++ g pair ∷ []
map-push g [] pair = refl
map-push g (next ∷ pairs) pair = ap (λ xs. g next ∷ xs) (map-push g pairs pair)

pub from_oldest-push : (pairs : List Pair) (pair : Pair) → from_oldest (pairs ++ pair ∷ []) ≡ from_oldest pairs ++ seen_from (oldest_of (pairs ++ pair ∷ [])) pair ∷ []
from_oldest-push [] pair = refl
from_oldest-push (first ∷ pairs) pair = map-push (seen_from first) (first ∷ pairs) pair

-- ---- as seen from another pair

square_shift-dif : (n x x' d d' s s' u u' : ℕ)
    → (dif x x' -ℤ dif d d') *ℤ (dif x x' -ℤ dif d d') +ℤ (dif s s' -ℤ dif u u' *ℤ dif d d' -ℤ (dif u u' -ℤ dif n 0 *ℤ dif d d') *ℤ dif d d')
    ≡ (dif x x' *ℤ dif x x' +ℤ dif s s') -ℤ (dif x x' +ℤ dif u u') *ℤ dif d d' -ℤ ((dif x x' +ℤ dif u u') -ℤ dif (1 + n) 0 *ℤ dif d d') *ℤ dif d d'
square_shift-dif n x x' d d' s s' u u' = simp differences (same _ _ _ _ (omega arith))

square_shift : (n : ℕ) (x d s u : ℤ)
    → (x -ℤ d) *ℤ (x -ℤ d) +ℤ (s -ℤ u *ℤ d -ℤ (u -ℤ pos n *ℤ d) *ℤ d)
    ≡ (x *ℤ x +ℤ s) -ℤ (x +ℤ u) *ℤ d -ℤ ((x +ℤ u) -ℤ pos (1 + n) *ℤ d) *ℤ d
square_shift n x d s u = simp (dif_is, pos_is) at (square_shift-dif n (up x) (down x) (up d) (down d) (up s) (down s) (up u) (down u))

product_shift-dif : (n x x' y y' d d' h h' t t' u u' v v' : ℕ)
    → (dif x x' -ℤ dif d d') *ℤ (dif y y' -ℤ dif h h') +ℤ (dif t t' -ℤ dif v v' *ℤ dif d d' -ℤ (dif u u' -ℤ dif n 0 *ℤ dif d d') *ℤ dif h h')
    ≡ (dif x x' *ℤ dif y y' +ℤ dif t t') -ℤ (dif y y' +ℤ dif v v') *ℤ dif d d' -ℤ ((dif x x' +ℤ dif u u') -ℤ dif (1 + n) 0 *ℤ dif d d') *ℤ dif h h'
product_shift-dif n x x' y y' d d' h h' t t' u u' v v' = simp differences (same _ _ _ _ (omega arith))

product_shift : (n : ℕ) (x y d h t u v : ℤ)
    → (x -ℤ d) *ℤ (y -ℤ h) +ℤ (t -ℤ v *ℤ d -ℤ (u -ℤ pos n *ℤ d) *ℤ h)
    ≡ (x *ℤ y +ℤ t) -ℤ (y +ℤ v) *ℤ d -ℤ ((x +ℤ u) -ℤ pos (1 + n) *ℤ d) *ℤ h
product_shift n x y d h t u v =
    simp (dif_is, pos_is) at (product_shift-dif n (up x) (down x) (up y) (down y) (up d) (down d) (up h) (down h) (up t) (down t) (up u) (down u) (up v) (down v))

one_and : (n : ℕ) → 1 + n ≡ suc n
one_and n = omega arith

one_more : (n : ℕ) (x d a U : ℤ) → a ≡ U -ℤ pos n *ℤ d → (x -ℤ d) +ℤ a ≡ (x +ℤ U) -ℤ pos (suc n) *ℤ d
one_more n x d a U e = omega (arith, ints)

none_shifted : (d h : ℤ) → pos 0 ≡ pos 0 -ℤ pos 0 *ℤ d -ℤ (pos 0 -ℤ pos 0 *ℤ d) *ℤ h
none_shifted d h =
    let none : pos 0 ≡ pos 0 -ℤ pos 0 *ℤ d = omega (arith, ints) in
    let none_too : pos 0 ≡ pos 0 -ℤ pos 0 *ℤ h = omega (arith, ints) in
    none_too ∙ ap (λ z. z -ℤ z *ℤ h) none

shift_samples : (base : Pair) (pairs : List Pair) → total sample_of (map (seen_from base) pairs) ≡ total sample_of pairs -ℤ pos (length pairs) *ℤ base.sample
unfolding total seen_from
shift_samples base [] = omega (arith, ints)
shift_samples base (pair ∷ pairs) =
    one_more (length pairs) pair.sample base.sample (total sample_of (map (seen_from base) pairs)) (total sample_of pairs) (shift_samples base pairs)

shift_hosts : (base : Pair) (pairs : List Pair) → total host_of (map (seen_from base) pairs) ≡ total host_of pairs -ℤ pos (length pairs) *ℤ base.host
unfolding total seen_from
shift_hosts base [] = omega (arith, ints)
shift_hosts base (pair ∷ pairs) =
    one_more (length pairs) pair.host base.host (total host_of (map (seen_from base) pairs)) (total host_of pairs) (shift_hosts base pairs)

shift_squares : (base : Pair) (pairs : List Pair)
    → total square_of (map (seen_from base) pairs) ≡ total square_of pairs -ℤ total sample_of pairs *ℤ base.sample -ℤ (total sample_of pairs -ℤ pos (length pairs) *ℤ base.sample) *ℤ base.sample
unfolding total seen_from square_of
shift_squares base [] = none_shifted base.sample base.sample
shift_squares base (pair ∷ pairs) =
    ap (λ z. (pair.sample -ℤ base.sample) *ℤ (pair.sample -ℤ base.sample) +ℤ z) (shift_squares base pairs)
    ∙ square_shift (length pairs) pair.sample base.sample (total square_of pairs) (total sample_of pairs)
    ∙ ap (λ k. (pair.sample *ℤ pair.sample +ℤ total square_of pairs) -ℤ (pair.sample +ℤ total sample_of pairs) *ℤ base.sample -ℤ ((pair.sample +ℤ total sample_of pairs) -ℤ pos k *ℤ base.sample) *ℤ base.sample) (one_and (length pairs))

shift_products : (base : Pair) (pairs : List Pair)
    → total product_of (map (seen_from base) pairs) ≡ total product_of pairs -ℤ total host_of pairs *ℤ base.sample -ℤ (total sample_of pairs -ℤ pos (length pairs) *ℤ base.sample) *ℤ base.host
unfolding total seen_from product_of
shift_products base [] = none_shifted base.sample base.host
shift_products base (pair ∷ pairs) =
    ap (λ z. (pair.sample -ℤ base.sample) *ℤ (pair.host -ℤ base.host) +ℤ z) (shift_products base pairs)
    ∙ product_shift (length pairs) pair.sample pair.host base.sample base.host (total product_of pairs) (total sample_of pairs) (total host_of pairs)
    ∙ ap (λ k. (pair.sample *ℤ pair.host +ℤ total product_of pairs) -ℤ (pair.host +ℤ total host_of pairs) *ℤ base.sample -ℤ ((pair.sample +ℤ total sample_of pairs) -ℤ pos k *ℤ base.sample) *ℤ base.host) (one_and (length pairs))

-- the sums of the same pairs from another base
pub record AreMoved (sums moved : Sums) (n : ℤ) (base : Pair) : Type 0 where
  pub samples : moved.samples ≡ sums.samples -ℤ n *ℤ base.sample
  pub hosts : moved.hosts ≡ sums.hosts -ℤ n *ℤ base.host
  pub squares : moved.squares ≡ sums.squares -ℤ sums.samples *ℤ base.sample -ℤ moved.samples *ℤ base.sample
  pub products : moved.products ≡ sums.products -ℤ sums.hosts *ℤ base.sample -ℤ moved.samples *ℤ base.host

pub sums_shift : (base : Pair) (pairs : List Pair) (sums moved : Sums) (n : ℤ) → n ≡ pos (length pairs) → AreSums pairs sums → AreMoved sums moved n base → AreSums (map (seen_from base) pairs) moved
sums_shift base pairs sums moved n e are to =
    let u : moved.samples ≡ total sample_of pairs -ℤ pos (length pairs) *ℤ base.sample = to.samples ∙ ap (λ z. z -ℤ n *ℤ base.sample) are.samples ∙ ap (λ z. total sample_of pairs -ℤ z *ℤ base.sample) e in
    let v : moved.hosts ≡ total host_of pairs -ℤ pos (length pairs) *ℤ base.host = to.hosts ∙ ap (λ z. z -ℤ n *ℤ base.host) are.hosts ∙ ap (λ z. total host_of pairs -ℤ z *ℤ base.host) e in
    record {
      samples = u ∙ sym (shift_samples base pairs);
      hosts = v ∙ sym (shift_hosts base pairs);
      squares =
          to.squares ∙ ap (λ z. z -ℤ sums.samples *ℤ base.sample -ℤ moved.samples *ℤ base.sample) are.squares
          ∙ ap (λ z. total square_of pairs -ℤ z *ℤ base.sample -ℤ moved.samples *ℤ base.sample) are.samples
          ∙ ap (λ z. total square_of pairs -ℤ total sample_of pairs *ℤ base.sample -ℤ z *ℤ base.sample) u
          ∙ sym (shift_squares base pairs);
      products =
          to.products ∙ ap (λ z. z -ℤ sums.hosts *ℤ base.sample -ℤ moved.samples *ℤ base.host) are.products
          ∙ ap (λ z. total product_of pairs -ℤ z *ℤ base.sample -ℤ moved.samples *ℤ base.host) are.hosts
          ∙ ap (λ z. total product_of pairs -ℤ total host_of pairs *ℤ base.sample -ℤ z *ℤ base.host) u
          ∙ sym (shift_products base pairs);
    }

-- ---- without the oldest

nothing_by : (b c : ℤ) → pos 0 *ℤ b +ℤ c ≡ c
nothing_by b c = omega (arith, ints)

nothing : (a b : ℤ) → a ≡ pos 0 → a +ℤ b ≡ b
nothing a b e = omega (arith, ints)

nothing_times : (a b c : ℤ) → a ≡ pos 0 → (a *ℤ b) +ℤ c ≡ c
nothing_times a b c e = ap (λ z. z *ℤ b +ℤ c) e ∙ nothing_by b c

-- the oldest is nothing as seen from itself
pub sums_tail : (pair : Pair) (pairs : List Pair) (sums : Sums) → AreSums (seen_from pair pair ∷ pairs) sums → AreSums pairs sums
unfolding total seen_from square_of product_of
sums_tail pair pairs sums are = record {
  samples = are.samples ∙ nothing (pair.sample -ℤ pair.sample) (total sample_of pairs) (omega (arith, ints));
  hosts = are.hosts ∙ nothing (pair.host -ℤ pair.host) (total host_of pairs) (omega (arith, ints));
  squares = are.squares ∙ nothing_times (pair.sample -ℤ pair.sample) (pair.sample -ℤ pair.sample) (total square_of pairs) (omega (arith, ints));
  products = are.products ∙ nothing_times (pair.sample -ℤ pair.sample) (pair.host -ℤ pair.host) (total product_of pairs) (omega (arith, ints));
}

seen_twice : (base next pair : Pair) → seen_from (seen_from base next) (seen_from base pair) ≡ seen_from next pair
unfolding seen_from
seen_twice base next pair =
    let sample : pair.sample -ℤ base.sample -ℤ (next.sample -ℤ base.sample) ≡ pair.sample -ℤ next.sample = omega (arith, ints) in
    let host : pair.host -ℤ base.host -ℤ (next.host -ℤ base.host) ≡ pair.host -ℤ next.host = omega (arith, ints) in
    cc

map_twice : (base next : Pair) (pairs : List Pair) → map (seen_from (seen_from base next)) (map (seen_from base) pairs) ≡ map (seen_from next) pairs
map_twice base next [] = refl
map_twice base next (pair ∷ pairs) =
    ap (λ p. p ∷ map (seen_from (seen_from base next)) (map (seen_from base) pairs)) (seen_twice base next pair)
    ∙ ap (λ xs. seen_from next pair ∷ xs) (map_twice base next pairs)

pub length-map_seen : (base : Pair) (pairs : List Pair) → length (map (seen_from base) pairs) ≡ length pairs
length-map_seen base [] = refl
length-map_seen base (pair ∷ pairs) = ap (λ n. suc n) (length-map_seen base pairs)

pub sums_drop : (oldest next : Pair) (pairs : List Pair) (sums moved : Sums) (n : ℤ) → n ≡ pos (length (next ∷ pairs))
    → AreSums (from_oldest (oldest ∷ next ∷ pairs)) sums → AreMoved sums moved n (seen_from oldest next) → AreSums (from_oldest (next ∷ pairs)) moved
sums_drop oldest next pairs sums moved n e are to =
    let rest = next ∷ pairs in
    let tail = sums_tail oldest (map (seen_from oldest) rest) sums are in
    let count : n ≡ pos (length (map (seen_from oldest) rest)) = e ∙ ap (λ (k : ℕ). pos k) (sym (length-map_seen oldest rest)) in
    let done = sums_shift (seen_from oldest next) (map (seen_from oldest) rest) sums moved n count tail to in
    subst (λ (xs : List Pair). AreSums xs moved) (map_twice oldest next rest) done

-- ---- bounds

unfoldable pub AreSmall : List Pair → Type 0
AreSmall [] = Unit {0}
AreSmall (pair ∷ pairs) = (unsigned_abs pair.sample ≤ 2 ^ 31) × (unsigned_abs pair.host ≤ 2 ^ 31) × AreSmall pairs

one_within : (a b : ℤ) (n m : ℕ) → unsigned_abs a ≤ m → unsigned_abs b ≤ n * m → unsigned_abs (a +ℤ b) ≤ suc n * m
one_within a b n m h k = omega (arith, ints)

samples-within : (pairs : List Pair) → AreSmall pairs → unsigned_abs (total sample_of pairs) ≤ length pairs * (2 ^ 31)
unfolding total AreSmall
samples-within [] small = omega (arith, ints)
samples-within (pair ∷ pairs) small = one_within pair.sample (total sample_of pairs) (length pairs) (2 ^ 31) small.0 (samples-within pairs small.2)

hosts-within : (pairs : List Pair) → AreSmall pairs → unsigned_abs (total host_of pairs) ≤ length pairs * (2 ^ 31)
unfolding total AreSmall
hosts-within [] small = omega (arith, ints)
hosts-within (pair ∷ pairs) small = one_within pair.host (total host_of pairs) (length pairs) (2 ^ 31) small.1 (hosts-within pairs small.2)

squares-within : (pairs : List Pair) → AreSmall pairs → unsigned_abs (total square_of pairs) ≤ length pairs * (2 ^ 62)
unfolding total AreSmall square_of
squares-within [] small = omega (arith, ints)
squares-within (pair ∷ pairs) small = one_within (pair.sample *ℤ pair.sample) (total square_of pairs) (length pairs) (2 ^ 62) (product_most pair.sample pair.sample (2 ^ 31) (2 ^ 31) small.0 small.0) (squares-within pairs small.2)

products-within : (pairs : List Pair) → AreSmall pairs → unsigned_abs (total product_of pairs) ≤ length pairs * (2 ^ 62)
unfolding total AreSmall product_of
products-within [] small = omega (arith, ints)
products-within (pair ∷ pairs) small = one_within (pair.sample *ℤ pair.host) (total product_of pairs) (length pairs) (2 ^ 62) (product_most pair.sample pair.host (2 ^ 31) (2 ^ 31) small.0 small.1) (products-within pairs small.2)

within_from : (a b : ℤ) (n m : ℕ) → a ≡ b → unsigned_abs b ≤ n → n ≤ m → IsWithin m a
within_from a b n m e h k = omega (arith, ints, ap unsigned_abs e)

pub bounded_sums : (pairs : List Pair) (sums : Sums) → length pairs ≤ 512 → AreSmall pairs → AreSums pairs sums → AreBounded sums
bounded_sums pairs sums few small are = record {
  samples = within_from sums.samples (total sample_of pairs) (length pairs * (2 ^ 31)) (2 ^ 41) are.samples (samples-within pairs small) (omega arith);
  hosts = within_from sums.hosts (total host_of pairs) (length pairs * (2 ^ 31)) (2 ^ 41) are.hosts (hosts-within pairs small) (omega arith);
  squares = within_from sums.squares (total square_of pairs) (length pairs * (2 ^ 62)) (2 ^ 72) are.squares (squares-within pairs small) (omega arith);
  products = within_from sums.products (total product_of pairs) (length pairs * (2 ^ 62)) (2 ^ 72) are.products (products-within pairs small) (omega arith);
}

small_from : (base : Pair) (pairs : List Pair) → ReachesAll base pairs → AreSmall (map (seen_from base) pairs)
unfolding ReachesAll AreSmall seen_from
small_from base [] all = tt
small_from base (pair ∷ pairs) all =
    let rises = all.0.rises in
    let near = all.0.near in
    (omega (arith, ints), all.0.alike, small_from base pairs all.1)

pub small_kept : (pairs : List Pair) → AreKept pairs → AreSmall (from_oldest pairs)
unfolding AreSmall AreNear seen_from
small_kept [] kept = tt
small_kept (pair ∷ pairs) kept = (omega (arith, ints), omega (arith, ints), small_from pair pairs kept.near.0)
