-- What a new pair leaves, and the line of the sums.
use Rattle.std.proofs.Common.{◌≡◌, ◌+◌, ◌*◌, ◌^◌, ◌<◌, ◌≤◌, ℤ, pos, ◌+ℤ◌, ◌-ℤ◌, ◌*ℤ◌, ◌<ℤ◌, unsigned_abs, Bool, true, false, cond, Option, Some, None, List, [], ◌∷◌, ◌++◌, map, length, length-append, refl, ap, sym, subst, ◌∙◌, arith}
use Rattle.std.proofs.lemmas.Int.{ints}
use Rattle.lk_base.specs.Ranges.{IsWithin, IsWithinLimit}
use Rattle.lk_base.specs.Rounding.{nearest_of, rounded_of}
use Rattle.link_hostfilter.specs.Totals.{total}
use Rattle.link_hostfilter.specs.Fit.{Fits, above, above_times_sample, seen_from, oldest_of, newest_of, from_oldest, value_at, IsFiltered}
use Rattle.link_hostfilter.specs.Sums.{sample_of, host_of, square_of, product_of, AreSums}
use Rattle.link_hostfilter.specs.Kept.{last, first_far, far_fault, is_late, fault_of, with_new, ReachesAll, AreNear, AreWithin, AreKept}
use Rattle.link_hostfilter.specs.declared.fault.FilterFault.{FilterFault}
use Rattle.link_hostfilter.specs.declared.fault.FilterFault.TheVariants.{NotLater}
use Rattle.link_hostfilter.specs.declared.line.Line.{Line}
use Rattle.link_hostfilter.specs.declared.pair.Pair.{Pair}
use Rattle.link_hostfilter.specs.declared.sums.Sums.{Sums}
use Rattle.link_hostfilter.proofs.KeptLemmas.{last_few, last_full, with_new-few, with_new-full, AllBelow, below_newest, none_far, near_push, within_push}
use Rattle.link_hostfilter.proofs.SumLemmas.{AreSmall, small_kept, length-map_seen}
use Rattle.link_hostfilter.proofs.SpreadLemmas.{line_of_sums, sums-fit, spread, spread-positive}
use Rattle.link_hostfilter.proofs.ValueLemmas.{AreLow, value-most, newest_sample}
use Rattle.link_hostfilter.proofs.NearLemmas.{by_lt, nearest_of-most}

-- ---- a pair that isn't refused

not_refused : (b : Bool) (first : FilterFault) (rest : Option FilterFault) → cond b (Some first) rest ≡ None → (b ≡ false) × (rest ≡ None)
not_refused true first rest e = absurd (cc)
not_refused false first rest e = (refl, e)

none_found : (far : Option Pair) → far_fault far ≡ None → far ≡ None
none_found None e = refl
none_found (Some pair) e = absurd (cc)

later_by : (new : Pair) (pair : Pair) (pairs : List Pair) → is_late new (pair ∷ pairs) ≡ false → (newest_of (pair ∷ pairs)).sample <ℤ new.sample
unfolding is_late
later_by new pair pairs e = omega (arith, ints)

pub kept_tail : (pair : Pair) (pairs : List Pair) → AreKept (pair ∷ pairs) → AreKept pairs
unfolding AreNear AreWithin
kept_tail pair pairs kept =
    let few = kept.few in
    record { few = omega arith; near = kept.near.1; limits = kept.limits.2 }

kept_push : (new : Pair) (pairs : List Pair) → length pairs ≤ 511 → AreKept pairs → AllBelow pairs new.sample → first_far new pairs ≡ None
    → IsWithinLimit new.sample → IsWithinLimit new.host → AreKept (pairs ++ new ∷ [])
kept_push new pairs few kept below none sample host = record {
  few = simp length-append (omega arith);
  near = near_push new pairs kept.near (none_far new pairs below none);
  limits = within_push new pairs kept.limits sample host;
}

no_pair_far : (new : Pair) → first_far new [] ≡ None
unfolding first_far
no_pair_far new = refl

pub kept_more : (new : Pair) (pairs : List Pair) → AreKept pairs → IsWithinLimit new.sample → IsWithinLimit new.host → fault_of new pairs ≡ None
    → AreKept (last 511 pairs ++ new ∷ [])
unfolding fault_of AllBelow
kept_more new [] kept sample host e =
    subst (λ (xs : List Pair). AreKept (xs ++ new ∷ [])) (sym (last_few 511 [] (omega arith))) (kept_push new [] (omega arith) kept tt (no_pair_far new) sample host)
kept_more new (pair ∷ pairs) kept sample host e =
    let all = pair ∷ pairs in
    let split = not_refused (is_late new all) (NotLater (newest_of all).sample) (far_fault (first_far new (last 511 all))) e in
    let none = none_found (first_far new (last 511 all)) split.1 in
    let below = below_newest all new.sample (omega arith) kept.near (later_by new pair pairs split.0) in
    let few = kept.few in
    by_lt (length pairs) 511
    (λ lt.
    let same = last_few 511 all (omega arith) in
    subst (λ (xs : List Pair). AreKept (xs ++ new ∷ [])) (sym same)
    (kept_push new all (omega arith) kept below (ap (first_far new) (sym same) ∙ none) sample host))
    (λ ge.
    let same = last_full 511 pair pairs (omega arith) in
    subst (λ (xs : List Pair). AreKept (xs ++ new ∷ [])) (sym same)
    (kept_push new pairs (omega arith) (kept_tail pair pairs kept) below.1 (ap (first_far new) (sym same) ∙ none) sample host))

-- those that stay and the new one are the last 512
pub staying : (new : Pair) (pairs : List Pair) → length pairs ≤ 512 → with_new new pairs ≡ last 511 pairs ++ new ∷ []
staying new [] few = with_new-few new [] (omega arith) ∙ ap (λ xs. xs ++ new ∷ []) (sym (last_few 511 [] (omega arith)))
staying new (pair ∷ pairs) few =
    by_lt (length pairs) 511
    (λ lt. with_new-few new (pair ∷ pairs) (omega arith) ∙ ap (λ xs. xs ++ new ∷ []) (sym (last_few 511 (pair ∷ pairs) (omega arith))))
    (λ ge. with_new-full new pair pairs (omega arith) ∙ ap (λ xs. xs ++ new ∷ []) (sym (last_full 511 pair pairs (omega arith))))

-- ---- the line of the sums

abbrev totals_of : List Pair → Sums
totals_of pairs = record { samples = total sample_of pairs; hosts = total host_of pairs; squares = total square_of pairs; products = total product_of pairs }

abbrev sums_at : ℤ → ℤ → ℤ → ℤ → Sums
sums_at a b c d = record { samples = a; hosts = b; squares = c; products = d }

-- records are the same where their fields are: `cc` doesn't see that
sums_are : (pairs : List Pair) (sums : Sums) → AreSums pairs sums → sums ≡ totals_of pairs
sums_are pairs sums are =
    ap (λ z. sums_at z sums.hosts sums.squares sums.products) are.samples
    ∙ ap (λ z. sums_at (total sample_of pairs) z sums.squares sums.products) are.hosts
    ∙ ap (λ z. sums_at (total sample_of pairs) (total host_of pairs) z sums.products) are.squares
    ∙ ap (λ z. sums_at (total sample_of pairs) (total host_of pairs) (total square_of pairs) z) are.products

abbrev line_at : ℤ → ℤ → ℤ → Line
line_at a b c = record { at_zero = a; rise = b; unit = c }

same_line : (line : Line) (a b c : ℤ) → line.at_zero ≡ a → line.rise ≡ b → line.unit ≡ c → line ≡ line_at a b c
same_line line a b c e f g =
    ap (λ z. line_at z line.rise line.unit) e ∙ ap (λ z. line_at a z line.unit) f ∙ ap (λ z. line_at a b z) g

pub record IsLineOf (sums : Sums) (n : ℤ) (line : Line) : Type 0 where
  pub at_zero : line.at_zero ≡ sums.hosts *ℤ sums.squares -ℤ sums.samples *ℤ sums.products
  pub rise : line.rise ≡ n *ℤ sums.products -ℤ sums.samples *ℤ sums.hosts
  pub unit : line.unit ≡ n *ℤ sums.squares -ℤ sums.samples *ℤ sums.samples

line_is : (pairs : List Pair) (sums : Sums) (line : Line) → AreSums pairs sums → IsLineOf sums (pos (length pairs)) line
    → line ≡ line_of_sums (length pairs) (total sample_of pairs) (total host_of pairs) (total square_of pairs) (total product_of pairs)
line_is pairs sums line are is =
    let same = sums_are pairs sums are in
    let a = is.at_zero ∙ ap (λ (s : Sums). s.hosts *ℤ s.squares -ℤ s.samples *ℤ s.products) same in
    let b = is.rise ∙ ap (λ (s : Sums). pos (length pairs) *ℤ s.products -ℤ s.samples *ℤ s.hosts) same in
    let c = is.unit ∙ ap (λ (s : Sums). pos (length pairs) *ℤ s.squares -ℤ s.samples *ℤ s.samples) same in
    same_line line (total host_of pairs *ℤ total square_of pairs -ℤ total sample_of pairs *ℤ total product_of pairs)
    (pos (length pairs) *ℤ total product_of pairs -ℤ total sample_of pairs *ℤ total host_of pairs)
    (pos (length pairs) *ℤ total square_of pairs -ℤ total sample_of pairs *ℤ total sample_of pairs) a b c

spread_from : (pair next : Pair) (pairs : List Pair) → AreKept (pair ∷ next ∷ pairs) → pos 0 <ℤ spread (from_oldest (pair ∷ next ∷ pairs))
unfolding AreNear ReachesAll seen_from
spread_from pair next pairs kept =
    let rises = kept.near.0.0.rises in
    spread-positive (seen_from pair pair) (seen_from pair next) (map (seen_from pair) pairs) (omega (arith, ints))

pub line_fits : (pair next : Pair) (pairs : List Pair) (sums : Sums) (line : Line) → AreKept (pair ∷ next ∷ pairs)
    → AreSums (from_oldest (pair ∷ next ∷ pairs)) sums → IsLineOf sums (pos (length (from_oldest (pair ∷ next ∷ pairs)))) line
    → Fits (from_oldest (pair ∷ next ∷ pairs)) line
unfolding spread
line_fits pair next pairs sums line kept are is =
    let rel = from_oldest (pair ∷ next ∷ pairs) in
    subst (λ (l : Line). Fits rel l) (sym (line_is rel sums line are is)) (sums-fit rel (spread_from pair next pairs kept))

small_low : (pairs : List Pair) → AreSmall pairs → AreLow (2 ^ 31) pairs
unfolding AreSmall AreLow
small_low [] small = tt
small_low (pair ∷ pairs) small = (small.1, small_low pairs small.2)

pub line_near : (pairs : List Pair) (line : Line) → 0 < length pairs → length pairs ≤ 512 → AreSmall pairs → Fits pairs line
    → unsigned_abs (line.at_zero +ℤ line.rise *ℤ (newest_of pairs).sample) ≤ (2 ^ 31 + 2 ^ 36) * unsigned_abs line.unit
line_near pairs line some few small fits =
    value-most (2 ^ 31) (2 ^ 36) pairs line some (small_low pairs small) (omega arith) fits

-- ---- one pair
nothing_left : (v u : ℤ) → v ≡ pos 0 → (pos 1 *ℤ v -ℤ pos 0 -ℤ pos 0 *ℤ u) +ℤ pos 0 ≡ pos 0
nothing_left v u e = omega (arith, ints)

nothing_at : (u : ℤ) → (pos 1 *ℤ pos 0 -ℤ pos 0 -ℤ pos 0 *ℤ u) ≡ pos 0
nothing_at u = omega (arith, ints)

nothing_by : (u : ℤ) → pos 0 *ℤ u +ℤ pos 0 ≡ pos 0
nothing_by u = omega (arith, ints)

nothing_times : (v u : ℤ) → v ≡ pos 0 → (pos 1 *ℤ v -ℤ pos 0 -ℤ pos 0 *ℤ u) *ℤ u +ℤ pos 0 ≡ pos 0
nothing_times v u e = ap (λ z. (pos 1 *ℤ z -ℤ pos 0 -ℤ pos 0 *ℤ u) *ℤ u +ℤ pos 0) e ∙ ap (λ z. z *ℤ u +ℤ pos 0) (nothing_at u) ∙ nothing_by u

nearest_none : nearest_of (pos 0) (pos 1) ≡ pos 0
unfolding nearest_of rounded_of
nearest_none = refl

flat_value : (host u : ℤ) → host ≡ host +ℤ nearest_of (pos 0 +ℤ pos 0 *ℤ u) (pos 1)
flat_value host u =
    let none : pos 0 +ℤ pos 0 *ℤ u ≡ pos 0 = omega (arith, ints) in
    let zero_near : nearest_of (pos 0 +ℤ pos 0 *ℤ u) (pos 1) ≡ pos 0 = ap (λ z. nearest_of z (pos 1)) none ∙ nearest_none in
    omega (arith, ints)

abbrev flat : Line
flat = record { at_zero = pos 0; rise = pos 0; unit = pos 1 }

flat_fits : (pair : Pair) → Fits (from_oldest (pair ∷ [])) flat
unfolding total above above_times_sample seen_from
flat_fits pair = record {
  positive = omega (arith, ints);
  balanced = nothing_left (pair.host -ℤ pair.host) (pair.sample -ℤ pair.sample) (omega (arith, ints));
  balanced_by_sample = nothing_times (pair.host -ℤ pair.host) (pair.sample -ℤ pair.sample) (omega (arith, ints));
}

pub one_filtered : (pair : Pair) → IsFiltered (pair ∷ []) pair.host
unfolding value_at newest_of
one_filtered pair = record {
  some = omega arith;
  line = flat;
  fits = flat_fits pair;
  value = flat_value pair.host (pair.sample -ℤ pair.sample);
}

-- ---- the value of a line that fits
value_most : (a b : ℤ) → unsigned_abs a ≤ 2 ^ 60 → unsigned_abs b ≤ 2 ^ 31 + 2 ^ 36 → unsigned_abs (a +ℤ b) ≤ 2 ^ 61
value_most a b h k = omega (arith, ints)

pub rel_length : (pairs : List Pair) → length (from_oldest pairs) ≡ length pairs
rel_length pairs = length-map_seen (oldest_of pairs) pairs

-- P + Q * u at the newest pair
pub newest_near : (pairs : List Pair) (line : Line) → 0 < length pairs → AreKept pairs → Fits (from_oldest pairs) line
    → unsigned_abs (line.at_zero +ℤ line.rise *ℤ ((newest_of pairs).sample -ℤ (oldest_of pairs).sample)) ≤ (2 ^ 31 + 2 ^ 36) * unsigned_abs line.unit
newest_near pairs line some kept fits =
    let few = kept.few in
    let same = rel_length pairs in
    let near = line_near (from_oldest pairs) line (omega arith) (omega arith) (small_kept pairs kept) fits in
    subst (λ (u : ℤ). unsigned_abs (line.at_zero +ℤ line.rise *ℤ u) ≤ (2 ^ 31 + 2 ^ 36) * unsigned_abs line.unit) (newest_sample pairs some) near

pub value_near : (pairs : List Pair) (line : Line) → 0 < length pairs → AreKept pairs → Fits (from_oldest pairs) line
    → unsigned_abs (value_at line ((newest_of pairs).sample -ℤ (oldest_of pairs).sample)) ≤ 2 ^ 31 + 2 ^ 36
unfolding value_at
value_near pairs line some kept fits =
    nearest_of-most (line.at_zero +ℤ line.rise *ℤ ((newest_of pairs).sample -ℤ (oldest_of pairs).sample)) line.unit (2 ^ 31 + 2 ^ 36) fits.positive (newest_near pairs line some kept fits)

pub oldest_within : (pairs : List Pair) → 0 < length pairs → AreKept pairs → unsigned_abs (oldest_of pairs).host ≤ 2 ^ 60
unfolding AreWithin
oldest_within [] some kept = absurd (omega arith)
oldest_within (pair ∷ pairs) some kept = kept.limits.1

pub host_within : (pairs : List Pair) (line : Line) → 0 < length pairs → AreKept pairs → Fits (from_oldest pairs) line
    → IsWithin (2 ^ 61) ((oldest_of pairs).host +ℤ value_at line ((newest_of pairs).sample -ℤ (oldest_of pairs).sample))
host_within pairs line some kept fits =
    value_most (oldest_of pairs).host (value_at line ((newest_of pairs).sample -ℤ (oldest_of pairs).sample)) (oldest_within pairs some kept) (value_near pairs line some kept fits)

-- some line fits pairs that are kept
line_there : (pairs : List Pair) → 0 < length pairs → AreKept pairs → (line : Line) × Fits (from_oldest pairs) line
unfolding spread
line_there [] some kept = absurd (omega arith)
line_there (pair ∷ []) some kept = (flat, flat_fits pair)
line_there (pair ∷ next ∷ pairs) some kept =
    let rel = from_oldest (pair ∷ next ∷ pairs) in
    (line_of_sums (length rel) (total sample_of rel) (total host_of rel) (total square_of rel) (total product_of rel), sums-fit rel (spread_from pair next pairs kept))

filtered_by : (pairs : List Pair) (line : Line) → 0 < length pairs → AreKept pairs → Fits (from_oldest pairs) line → (host : ℤ) × IsFiltered pairs host × IsWithin (2 ^ 61) host
filtered_by pairs line some kept fits = (
  (oldest_of pairs).host +ℤ value_at line ((newest_of pairs).sample -ℤ (oldest_of pairs).sample),
  record { some = some; line = line; fits = fits; value = refl },
  host_within pairs line some kept fits,
)

pub kept_filtered : (pairs : List Pair) → AreKept pairs → 0 < length pairs → (host : ℤ) × IsFiltered pairs host × IsWithin (2 ^ 61) host
kept_filtered pairs kept some =
    let there = line_there pairs some kept in
    filtered_by pairs there.0 some kept there.1
