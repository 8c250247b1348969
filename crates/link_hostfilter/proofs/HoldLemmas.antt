-- What a filter holds, as pairs come and go.
use Rattle.std.proofs.Common.{◌≡◌, ℕ, zero, suc, ◌+◌, ◌-◌, ◌*◌, ◌^◌, ◌<◌, ◌≤◌, ℤ, pos, ◌+ℤ◌, ◌-ℤ◌, ◌*ℤ◌, unsigned_abs, to_z, of_z, w64, Bool, true, false, cond, Option, Some, List, [], ◌∷◌, ◌++◌, map, length, drop, slice_index_or, length-append, length-drop, refl, ap, sym, subst, ◌∙◌, arith}
use Rattle.std.proofs.lemmas.Int.{ints}
use Rattle.lk_base.specs.Ranges.{IsWithin, IsWithinLimit}
use Rattle.link_hostfilter.specs.Totals.{total}
use Rattle.link_hostfilter.specs.Fit.{Fits, seen_from, oldest_of, newest_of, from_oldest, value_at, IsFiltered}
use Rattle.link_hostfilter.specs.Sums.{AreSums, AreBounded}
use Rattle.link_hostfilter.specs.Span.{AreAmong}
use Rattle.link_hostfilter.specs.Kept.{last, first_far, far_fault, is_late, fault_of, AreNear, AreWithin, AreKept}
use Rattle.link_hostfilter.specs.declared.fault.FilterFault.{FilterFault}
use Rattle.link_hostfilter.specs.declared.fault.FilterFault.TheVariants.{NotLater}
use Rattle.link_hostfilter.specs.declared.line.Line.{Line}
use Rattle.link_hostfilter.specs.declared.pair.Pair.{Pair}
use Rattle.link_hostfilter.specs.declared.span.Span.{Span}
use Rattle.link_hostfilter.specs.declared.sums.Sums.{Sums}
use Rattle.link_hostfilter.proofs.KeptLemmas.{last_full}
use Rattle.link_hostfilter.proofs.SumLemmas.{AreMoved, AreSmall, small_kept, bounded_sums, sums_push, sums_drop, from_oldest-push}
use Rattle.link_hostfilter.proofs.FilterLemmas.{IsLineOf, line_fits, kept_tail, rel_length, newest_near, oldest_within, host_within, one_filtered}
use Rattle.link_hostfilter.proofs.FarLemmas.{oldest_is, newest_is, within_at, near_drop, within_drop, among_drop}
use Rattle.link_hostfilter.proofs.ReadLemmas.{read_short, count_read}

-- what is kept beside the pairs
abbrev pub Holds : List Pair → Sums → Span → Type 0
Holds pairs sums hosts = AreKept pairs × AreSums (from_oldest pairs) sums × AreAmong hosts pairs

abbrev none : Sums
none = record { samples = pos 0; hosts = pos 0; squares = pos 0; products = pos 0 }

none_kept : AreKept []
unfolding AreNear AreWithin
none_kept = record { few = omega arith; near = tt; limits = tt }

none_summed : AreSums [] none
unfolding total
none_summed = record { samples = refl; hosts = refl; squares = refl; products = refl }

none_among : (hosts : Span) → AreAmong hosts []
unfolding AreAmong
none_among hosts = tt

pub holds_none : (pairs : List Pair) (sums : Sums) (hosts : Span) → pairs ≡ [] → sums ≡ none → Holds pairs sums hosts
holds_none pairs sums hosts e f =
    subst (λ (xs : List Pair). Holds xs sums hosts) (sym e)
    (none_kept, subst (λ (s : Sums). AreSums [] s) (sym f) none_summed, none_among hosts)

-- ---- bounds

pub bounded : (pairs : List Pair) (sums : Sums) → AreKept pairs → AreSums (from_oldest pairs) sums → AreBounded sums
bounded pairs sums kept are =
    let few = kept.few in
    let same = rel_length pairs in
    bounded_sums (from_oldest pairs) sums (omega arith) (small_kept pairs kept) are

small_at : (i : ℕ) (base : Pair) (pairs : List Pair) (d : Pair) → i < length pairs → AreSmall (map (seen_from base) pairs)
    → IsWithin (2 ^ 31) ((slice_index_or pairs i d).sample -ℤ base.sample) × IsWithin (2 ^ 31) ((slice_index_or pairs i d).host -ℤ base.host)
unfolding AreSmall seen_from
small_at i base [] d lt small = absurd (omega arith)
small_at zero base (pair ∷ pairs) d lt small = (small.0, small.1)
small_at (suc i) base (pair ∷ pairs) d lt small = small_at i base pairs d (omega arith) small.2

-- how far a pair is from the oldest
pub seen_small : (i : ℕ) (pairs : List Pair) (d : Pair) → i < length pairs → AreKept pairs
    → IsWithin (2 ^ 31) ((slice_index_or pairs i d).sample -ℤ (oldest_of pairs).sample) × IsWithin (2 ^ 31) ((slice_index_or pairs i d).host -ℤ (oldest_of pairs).host)
seen_small i pairs d lt kept = small_at i (oldest_of pairs) pairs d lt (small_kept pairs kept)

-- ---- without the oldest

abbrev pair_at : ℤ → ℤ → Pair
pair_at a b = record { sample = a; host = b }

same_pair : (pair : Pair) (a b : ℤ) → pair.sample ≡ a → pair.host ≡ b → pair ≡ pair_at a b
same_pair pair a b e f = ap (λ z. pair_at z pair.host) e ∙ ap (λ z. pair_at a z) f

pub holds_drop : (pairs : List Pair) (sums moved : Sums) (hosts : Span) (base d : Pair) → length pairs ≡ 512 → Holds pairs sums hosts
    → base.sample ≡ (slice_index_or pairs 1 d).sample -ℤ (slice_index_or pairs 0 d).sample → base.host ≡ (slice_index_or pairs 1 d).host -ℤ (slice_index_or pairs 0 d).host
    → AreMoved sums moved (pos 511) base → Holds (drop 1 pairs) moved hosts
unfolding seen_from
holds_drop [] sums moved hosts base d full holds e f to = absurd (omega arith)
holds_drop (pair ∷ []) sums moved hosts base d full holds e f to = absurd (omega arith)
holds_drop (pair ∷ next ∷ pairs) sums moved hosts base d full holds e f to =
    let here = same_pair base (next.sample -ℤ pair.sample) (next.host -ℤ pair.host) e f in
    let there = subst (λ (p : Pair). AreMoved sums moved (pos 511) p) here to in
    let count : length (next ∷ pairs) ≡ 511 = omega arith in
    (kept_tail pair (next ∷ pairs) holds.0, sums_drop pair next pairs sums moved (pos 511) (ap (λ (k : ℕ). pos k) (sym count)) holds.1 there, among_drop hosts 1 (pair ∷ next ∷ pairs) holds.2)

pub last_dropped : (pairs : List Pair) → length pairs ≡ 512 → drop 1 pairs ≡ last 511 pairs
last_dropped [] full = absurd (omega arith)
last_dropped (pair ∷ pairs) full = sym (last_full 511 pair pairs (omega arith))

pub last_room : (pairs : List Pair) → length pairs ≤ 512 → length (last 511 pairs) ≤ 511
unfolding last
last_room pairs few = simp length-drop (omega arith)

-- ---- with one more

last_small : (pairs : List Pair) (pair : Pair) → AreSmall (pairs ++ pair ∷ []) → IsWithin (2 ^ 31) pair.sample × IsWithin (2 ^ 31) pair.host
unfolding AreSmall
last_small [] pair small = (small.0, small.1)
last_small (next ∷ pairs) pair small = last_small pairs pair small.2

-- how far the one more is from the oldest
pub push_small : (pairs : List Pair) (pair : Pair) → AreKept (pairs ++ pair ∷ [])
    → IsWithin (2 ^ 31) (pair.sample -ℤ (oldest_of (pairs ++ pair ∷ [])).sample) × IsWithin (2 ^ 31) (pair.host -ℤ (oldest_of (pairs ++ pair ∷ [])).host)
unfolding seen_from
push_small pairs pair kept =
    last_small (from_oldest pairs) (seen_from (oldest_of (pairs ++ pair ∷ [])) pair)
    (subst (λ (xs : List Pair). AreSmall xs) (from_oldest-push pairs pair) (small_kept (pairs ++ pair ∷ []) kept))

-- the sums with one more
pub record AreMore (sums more : Sums) (seen : Pair) : Type 0 where
  pub samples : more.samples ≡ sums.samples +ℤ seen.sample
  pub hosts : more.hosts ≡ sums.hosts +ℤ seen.host
  pub squares : more.squares ≡ sums.squares +ℤ seen.sample *ℤ seen.sample
  pub products : more.products ≡ sums.products +ℤ seen.sample *ℤ seen.host

pub sums_more : (pairs : List Pair) (sums more : Sums) (pair seen : Pair) → AreSums (from_oldest pairs) sums
    → seen.sample ≡ pair.sample -ℤ (oldest_of (pairs ++ pair ∷ [])).sample → seen.host ≡ pair.host -ℤ (oldest_of (pairs ++ pair ∷ [])).host
    → AreMore sums more seen → AreSums (from_oldest (pairs ++ pair ∷ [])) more
unfolding seen_from
sums_more pairs sums more pair seen are e f by =
    let oldest = oldest_of (pairs ++ pair ∷ []) in
    let here = same_pair seen (pair.sample -ℤ oldest.sample) (pair.host -ℤ oldest.host) e f in
    let there = subst (λ (p : Pair). AreMore sums more p) here by in
    subst (λ (xs : List Pair). AreSums xs more) (sym (from_oldest-push pairs pair))
    (sums_push (from_oldest pairs) sums more (seen_from oldest pair) are there.samples there.hosts there.squares there.products)

pub push_oldest : (pairs : List Pair) (d : Pair) (pair : Pair) → slice_index_or (pairs ++ pair ∷ []) 0 d ≡ oldest_of (pairs ++ pair ∷ [])
push_oldest [] d pair = refl
push_oldest (next ∷ pairs) d pair = refl

pub push_limits : (pairs : List Pair) (pair : Pair) → AreWithin (pairs ++ pair ∷ []) → IsWithinLimit pair.sample × IsWithinLimit pair.host
unfolding AreWithin
push_limits [] pair within = (within.0, within.1)
push_limits (next ∷ pairs) pair within = push_limits pairs pair within.2

-- ---- the line

pub fits_kept : (pairs : List Pair) (sums : Sums) (line : Line) → 2 ≤ length pairs → AreKept pairs → AreSums (from_oldest pairs) sums
    → IsLineOf sums (pos (length pairs)) line → Fits (from_oldest pairs) line
fits_kept [] sums line two kept are is = absurd (omega arith)
fits_kept (pair ∷ []) sums line two kept are is = absurd (omega arith)
fits_kept (pair ∷ next ∷ pairs) sums line two kept are is =
    line_fits pair next pairs sums line kept are (subst (λ (k : ℕ). IsLineOf sums (pos k) line) (sym (rel_length (pair ∷ next ∷ pairs))) is)

pub newest_limits : (pairs : List Pair) → 0 < length pairs → AreWithin pairs → IsWithinLimit (newest_of pairs).sample × IsWithinLimit (newest_of pairs).host
unfolding newest_of AreWithin
newest_limits [] some within = absurd (omega arith)
newest_limits (pair ∷ []) some within = (within.0, within.1)
newest_limits (pair ∷ next ∷ pairs) some within = newest_limits (next ∷ pairs) (omega arith) within.2

-- ---- refusals

fault_if : (b : Bool) (first : FilterFault) (rest : Option FilterFault) → b ≡ true → cond b (Some first) rest ≡ Some first
fault_if true first rest e = refl
fault_if false first rest e = absurd (cc)

fault_unless : (b : Bool) (first : FilterFault) (rest : Option FilterFault) → b ≡ false → cond b (Some first) rest ≡ rest
fault_unless true first rest e = absurd (cc)
fault_unless false first rest e = refl

pub fault_late : (new : Pair) (pairs : List Pair) → is_late new pairs ≡ true → fault_of new pairs ≡ Some (NotLater (newest_of pairs).sample)
unfolding fault_of
fault_late new pairs late = fault_if (is_late new pairs) (NotLater (newest_of pairs).sample) (far_fault (first_far new (last 511 pairs))) late

pub fault_far : (new : Pair) (pairs : List Pair) (far : Option Pair) → is_late new pairs ≡ false → far ≡ first_far new (last 511 pairs) → fault_of new pairs ≡ far_fault far
unfolding fault_of
fault_far new pairs far late e =
    fault_unless (is_late new pairs) (NotLater (newest_of pairs).sample) (far_fault (first_far new (last 511 pairs))) late ∙ ap far_fault (sym e)

pub late_has_one : (new : Pair) (pairs : List Pair) → is_late new pairs ≡ true → 0 < length pairs
unfolding is_late
late_has_one new [] e = absurd (cc)
late_has_one new (pair ∷ pairs) e = omega arith

-- the pairs that would stay
pub holds_last : (pairs : List Pair) (sums : Sums) (hosts : Span) → Holds pairs sums hosts
    → AreNear (last 511 pairs) × AreWithin (last 511 pairs) × AreAmong hosts (last 511 pairs)
unfolding last
holds_last pairs sums hosts holds =
    let n = length pairs - 511 in
    (near_drop n pairs holds.0.near, within_drop n pairs holds.0.limits, among_drop hosts n pairs holds.2)

pub base_small : (pairs : List Pair) (base d : Pair) → length pairs ≡ 512 → AreKept pairs
    → base.sample ≡ (slice_index_or pairs 1 d).sample -ℤ (slice_index_or pairs 0 d).sample → base.host ≡ (slice_index_or pairs 1 d).host -ℤ (slice_index_or pairs 0 d).host
    → IsWithin (2 ^ 31) base.sample × IsWithin (2 ^ 31) base.host
base_small pairs base d full kept e f =
    let small = seen_small 1 pairs d (omega arith) kept in
    let oldest = oldest_is pairs d (omega arith) in
    let sample = e ∙ ap (λ (p : Pair). (slice_index_or pairs 1 d).sample -ℤ p.sample) oldest in
    let host = f ∙ ap (λ (p : Pair). (slice_index_or pairs 1 d).host -ℤ p.host) oldest in
    (subst (λ (z : ℤ). IsWithin (2 ^ 31) z) (sym sample) small.0, subst (λ (z : ℤ). IsWithin (2 ^ 31) z) (sym host) small.1)

pub push_some : (pairs : List Pair) (pair : Pair) → 0 < length (pairs ++ pair ∷ [])
push_some pairs pair = simp length-append (omega arith)

-- how far the one more is from the first of all, as the code reads it
pub push_seen : (all pairs : List Pair) (pair seen d : Pair) → all ≡ pairs ++ pair ∷ []
    → seen.sample ≡ pair.sample -ℤ (slice_index_or all 0 d).sample → seen.host ≡ pair.host -ℤ (slice_index_or all 0 d).host
    → (seen.sample ≡ pair.sample -ℤ (oldest_of (pairs ++ pair ∷ [])).sample) × (seen.host ≡ pair.host -ℤ (oldest_of (pairs ++ pair ∷ [])).host)
push_seen all pairs pair seen d same e f =
    let first = ap (λ (xs : List Pair). slice_index_or xs 0 d) same ∙ push_oldest pairs d pair in
    (e ∙ ap (λ (p : Pair). pair.sample -ℤ p.sample) first, f ∙ ap (λ (p : Pair). pair.host -ℤ p.host) first)

pub push_near : (pairs : List Pair) (pair seen : Pair) → AreKept (pairs ++ pair ∷ [])
    → (seen.sample ≡ pair.sample -ℤ (oldest_of (pairs ++ pair ∷ [])).sample) × (seen.host ≡ pair.host -ℤ (oldest_of (pairs ++ pair ∷ [])).host)
    → IsWithin (2 ^ 31) seen.sample × IsWithin (2 ^ 31) seen.host
push_near pairs pair seen kept seen_is =
    let small = push_small pairs pair kept in
    (subst (λ (z : ℤ). IsWithin (2 ^ 31) z) (sym seen_is.0) small.0, subst (λ (z : ℤ). IsWithin (2 ^ 31) z) (sym seen_is.1) small.1)

-- ---- the newest pair on the line

pub one_held : (pairs : List Pair) → length pairs ≡ 1 → IsFiltered pairs (oldest_of pairs).host
one_held [] one = absurd (omega arith)
one_held (pair ∷ []) one = one_filtered pair
one_held (pair ∷ next ∷ pairs) one = absurd (omega arith)

-- the host time of the first, as the code reads it
pub first_host : (pairs : List Pair) (d : Pair) → 0 < length pairs → AreKept pairs → to_z w64 (of_z w64 (slice_index_or pairs 0 d).host) ≡ (oldest_of pairs).host
first_host pairs d some kept =
    let limit = (within_at 0 pairs d some kept.limits).1 in
    read_short (slice_index_or pairs 0 d).host (omega arith) ∙ ap (λ (p : Pair). p.host) (oldest_is pairs d some)

newest_small : (pairs : List Pair) → 0 < length pairs → AreKept pairs → IsWithin (2 ^ 31) ((newest_of pairs).sample -ℤ (oldest_of pairs).sample)
newest_small [] some kept = absurd (omega arith)
newest_small (pair ∷ pairs) some kept =
    subst (λ (p : Pair). IsWithin (2 ^ 31) (p.sample -ℤ pair.sample)) (newest_is (length pairs) (pair ∷ pairs) pair refl)
    (seen_small (length pairs) (pair ∷ pairs) pair (omega arith) kept).0

-- how far the newest is from the first, as the code reads it
pub last_seen : (pairs : List Pair) (newest last d : Pair) → 0 < length pairs → AreKept pairs → newest ≡ newest_of pairs
    → last.sample ≡ newest.sample -ℤ (slice_index_or pairs 0 d).sample
    → (to_z w64 (of_z w64 last.sample) ≡ (newest_of pairs).sample -ℤ (oldest_of pairs).sample)
last_seen pairs newest last d some kept e f =
    let same = f ∙ ap (λ (p : Pair). p.sample -ℤ (slice_index_or pairs 0 d).sample) e ∙ ap (λ (p : Pair). (newest_of pairs).sample -ℤ p.sample) (oldest_is pairs d some) in
    let small = newest_small pairs some kept in
    ap (λ z. to_z w64 (of_z w64 z)) same ∙ read_short ((newest_of pairs).sample -ℤ (oldest_of pairs).sample) (omega arith)

pub last_near : (pairs : List Pair) (sample : ℤ) → 0 < length pairs → AreKept pairs → sample ≡ (newest_of pairs).sample -ℤ (oldest_of pairs).sample → IsWithin (2 ^ 31) sample
last_near pairs sample some kept e = subst (λ (z : ℤ). IsWithin (2 ^ 31) z) (sym e) (newest_small pairs some kept)

pub line_low : (pairs : List Pair) (line : Line) (sample : ℤ) → 0 < length pairs → AreKept pairs → Fits (from_oldest pairs) line
    → sample ≡ (newest_of pairs).sample -ℤ (oldest_of pairs).sample
    → unsigned_abs (line.at_zero +ℤ line.rise *ℤ sample) ≤ (2 ^ 31 + 2 ^ 36) * unsigned_abs line.unit
line_low pairs line sample some kept fits e =
    subst (λ (u : ℤ). unsigned_abs (line.at_zero +ℤ line.rise *ℤ u) ≤ (2 ^ 31 + 2 ^ 36) * unsigned_abs line.unit) (sym e) (newest_near pairs line some kept fits)

sum_read : (a b : ℤ) → unsigned_abs a ≤ 2 ^ 60 → unsigned_abs b ≤ 2 ^ 37 → to_z w64 (of_z w64 (a +ℤ to_z w64 (of_z w64 b))) ≡ a +ℤ b
sum_read a b h k =
    ap (λ z. to_z w64 (of_z w64 (a +ℤ z))) (read_short b (omega arith)) ∙ read_short (a +ℤ b) (omega (arith, ints))

-- the host time that the code answers
pub host_is : (pairs : List Pair) (line : Line) (d : Pair) (sample at : ℤ) → 0 < length pairs → AreKept pairs
    → sample ≡ (newest_of pairs).sample -ℤ (oldest_of pairs).sample → at ≡ value_at line sample → IsWithin (2 ^ 37) at
    → to_z w64 (of_z w64 (to_z w64 (of_z w64 (slice_index_or pairs 0 d).host) +ℤ to_z w64 (of_z w64 at)))
    ≡ (oldest_of pairs).host +ℤ value_at line ((newest_of pairs).sample -ℤ (oldest_of pairs).sample)
host_is pairs line d sample at some kept e f near =
    ap (λ z. to_z w64 (of_z w64 (z +ℤ to_z w64 (of_z w64 at)))) (first_host pairs d some kept)
    ∙ sum_read (oldest_of pairs).host at (oldest_within pairs some kept) near
    ∙ ap (λ z. (oldest_of pairs).host +ℤ z) (f ∙ ap (λ u. value_at line u) e)

pub filtered_host : (pairs : List Pair) (line : Line) (host : ℤ) → 0 < length pairs → AreKept pairs → Fits (from_oldest pairs) line
    → host ≡ (oldest_of pairs).host +ℤ value_at line ((newest_of pairs).sample -ℤ (oldest_of pairs).sample)
    → IsFiltered pairs host × IsWithin (2 ^ 61) host
filtered_host pairs line host some kept fits e = (
  record { some = some; line = line; fits = fits; value = e },
  subst (λ (z : ℤ). IsWithin (2 ^ 61) z) (sym e) (host_within pairs line some kept fits),
)

-- the line of the sums fits, with the count as the code reads it
pub line_held : (pairs : List Pair) (sums : Sums) (hosts : Span) (line : Line) → Holds pairs sums hosts → 2 ≤ length pairs
    → IsLineOf sums (to_z w64 (length pairs)) line → Fits (from_oldest pairs) line
line_held pairs sums hosts line holds two is =
    fits_kept pairs sums line two holds.0 holds.1 (subst (λ (n : ℤ). IsLineOf sums n line) (count_read (length pairs) holds.0.few) is)
