-- What honest pongs say of the points, and how many pongs the points need.
use Rattle.std.proofs.Common.{◌≡◌, ◌*◌, ◌<◌, ◌≤◌, Bool, true, false, cond, if◌then◌else◌, List, [], ◌∷◌, ◌++◌, ℤ, pos, ◌+ℤ◌, ◌-ℤ◌, ◌≤ℤ◌, unsigned_abs, nat_lt, length, count_by, All, refl, sym, ap, ◌∙◌, arith}
use Rattle.std.specs.List.{AllByRecursion}
use Rattle.std.proofs.lemmas.Int.{ints}
use Rattle.std.proofs.lemmas.Bool.{false≢true, ltb-true}
use Rattle.std.proofs.lemmas.List.{length-append}
use Rattle.std.proofs.lemmas.List.Elements.{All-append, All-cons}
use Rattle.std.proofs.lemmas.List.Sums.{sum_by-cons}
use Rattle.ghost_xform.specs.Rank.{IsAbout, offset_of}
use Rattle.ghost_xform.specs.declared.xform.XForm.{XForm}
use Rattle.link_payload.specs.declared.fields.PingFields.{PingFields}
use Rattle.link_payload.specs.declared.fields.PongFields.{PongFields}
use Rattle.ping_measure.specs.Points.{Happened, counted, silent, strayed, is_counted, is_zero, point_of, point_before_of, points_in, points_of}
use Rattle.ping_measure.specs.Life.{Life, with, counted_outcome}
use Rattle.ping_measure.specs.Accuracy.{IsFairPong, IsFair, IfDone}
use Rattle.ping_measure.specs.declared.outcome.Outcome.TheVariants.{Again, Done}
use Rattle.ping_measure.proofs.LifeLemmas.{points_of-with}

-- both points of an honest pong
fair_point : (c r : ℤ) (pong : PongFields) (at : ℤ) → IsFairPong c r pong at → IsAbout c r (point_of pong at)
fair_point c r pong at fair =
    let round_trip = fair.round_trip in
    let read = fair.ghost_time in
    let t = read.0 in
    let first : pong.host ≤ℤ t = read.1 in
    let last : t ≤ℤ at = read.2 in
    let e : pong.ghost_time ≡ t +ℤ c = read.3 in
    record { low = omega (arith, ints); high = omega (arith, ints) }

fair_point_before : (c r : ℤ) (pong : PongFields) (at : ℤ) → IsFairPong c r pong at → is_zero pong.previous ≡ false
    → IsAbout c r (point_before_of pong)
fair_point_before c r pong at fair more =
    let round_trip = fair.round_trip in
    let read = fair.ghost_time in
    let before = fair.previous (λ e. false≢true (sym more ∙ ap is_zero e)) in
    let t = read.0 in
    let first : pong.host ≤ℤ t = read.1 in
    let last : t ≤ℤ at = read.2 in
    let e : pong.ghost_time ≡ t +ℤ c = read.3 in
    let s = before.0 in
    let first_before : (pong.host -ℤ r) ≤ℤ s = before.1 in
    let last_before : s ≤ℤ pong.host = before.2 in
    let e_before : pong.previous ≡ s +ℤ c = before.3 in
    record { low = omega (arith, ints); high = omega (arith, ints) }

none_about : (c r : ℤ) → All (IsAbout c r) []
none_about c r = λ k d lt. absurd (omega arith)

fair_if : (c r x y : ℤ) (none first : Bool) → IsAbout c r x → (first ≡ false → IsAbout c r y)
    → All (IsAbout c r) (if none then [] else x ∷ (if first then [] else y ∷ []))
fair_if c r x y true first isx isy = none_about c r
fair_if c r x y false true isx isy = All-cons (IsAbout c r) x [] isx (none_about c r)
fair_if c r x y false false isx isy =
    All-cons (IsAbout c r) x (y ∷ []) isx (All-cons (IsAbout c r) y [] (isy refl) (none_about c r))

fair_points : (c r : ℤ) (pong : PongFields) (at : ℤ) → IsFairPong c r pong at → All (IsAbout c r) (points_in pong at)
unfolding points_in
fair_points c r pong at fair =
    fair_if c r (point_of pong at) (point_before_of pong) _ (is_zero pong.previous) (fair_point c r pong at fair)
    (λ more. fair_point_before c r pong at fair more)

-- all points of honest pongs
pub fair_all : (c r : ℤ) (happened : List Happened) → AllByRecursion (IsFair c r) happened
    → All (IsAbout c r) (points_of happened)
unfolding points_of
fair_all c r [] all = none_about c r
fair_all c r (counted pong at ∷ xs) all =
    All-append (IsAbout c r) (points_in pong at) (points_of xs) (fair_points c r pong at all.0) (fair_all c r xs all.1)
fair_all c r (silent at ∷ xs) all = fair_all c r xs all.1
fair_all c r (strayed session ∷ xs) all = fair_all c r xs all.1

-- a pong gives at most two points
two_at_most : (x y : ℤ) (none first : Bool) → length (if none then [] else x ∷ (if first then [] else y ∷ [])) ≤ 2
two_at_most x y true first = omega arith
two_at_most x y false true = omega arith
two_at_most x y false false = omega arith

points_in-few : (pong : PongFields) (at : ℤ) → length (points_in pong at) ≤ 2
unfolding points_in
points_in-few pong at = two_at_most (point_of pong at) (point_before_of pong) _ (is_zero pong.previous)

few_points : (happened : List Happened) → length (points_of happened) ≤ 2 * count_by is_counted happened
unfolding points_of
few_points [] = omega arith
few_points (counted pong at ∷ xs) =
    let rest = few_points xs in
    let one = sum_by-cons (λ e. cond (is_counted e) 1 0) (counted pong at) xs in
    omega (arith, length-append (points_in pong at) (points_of xs), points_in-few pong at)
few_points (silent at ∷ xs) = few_points xs
few_points (strayed session ∷ xs) = few_points xs

pub enough_counted : (happened : List Happened) → 100 < length (points_of happened) → 51 ≤ count_by is_counted happened
enough_counted happened h = omega (arith, few_points happened)

-- the offset of a finished measurement
abbrev pub IsBound : Life → ℤ → ℤ → Type 0
IsBound life c r = pos (2 * unsigned_abs (offset_of (points_of life.happened) -ℤ c)) ≤ℤ (r +ℤ pos 1)

if_done : (b : Bool) (xform : XForm) (ping : PingFields) (P : XForm → Type 0) → (b ≡ true → P xform)
    → IfDone (if b then Done xform else Again ping) P
if_done true xform ping P h = h refl
if_done false xform ping P h = tt

pub done_near : (life : Life) (pong : PongFields) (now c r : ℤ)
    → (100 < length (points_of (with life (counted pong now)).happened) → IsBound (with life (counted pong now)) c r)
    → IfDone (counted_outcome life pong now) (λ xform. pos (2 * unsigned_abs (xform.offset -ℤ c)) ≤ℤ (r +ℤ pos 1))
done_near life pong now c r bound =
    let points = points_of life.happened ++ points_in pong now in
    let same : points_of (with life (counted pong now)).happened ≡ points = points_of-with life.happened (counted pong now) in
    if_done (nat_lt 100 (length points)) _ _ (λ xform. pos (2 * unsigned_abs (xform.offset -ℤ c)) ≤ℤ (r +ℤ pos 1))
    (λ more. rw same at (bound (rw same (ltb-true 100 (length points) more))))
