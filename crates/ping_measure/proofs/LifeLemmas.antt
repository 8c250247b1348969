-- What one happening more makes of a life.
use Rattle.std.proofs.Common.{◌≡◌, ◌+◌, ◌-◌, Bool, true, false, cond, ◌||◌, List, [], ◌∷◌, ◌++◌, ℤ, pos, ◌+ℤ◌, nat_lt, nat_le, length, take, count_by, refl, sym, ap, ◌∙◌, arith}
use Rattle.std.specs.List.{list_any}
use Rattle.std.proofs.lemmas.Bool.{false≢true}
use Rattle.std.proofs.lemmas.List.{append-nil, length-append}
use native.Mathlib.Nat.{add-zero}
use Rattle.std.proofs.lemmas.List.Sums.{sum_by_push}
use Rattle.std.proofs.lemmas.Grind.{flat_map-append}
use Rattle.std.proofs.Math.Bool.{or_assoc, or-false}
use Rattle.std.proofs.Math.Seq.{take-append_seam}
use Rattle.lk_base.specs.declared.ids.NodeId.{NodeId}
use Rattle.link_payload.specs.declared.fields.PongFields.{PongFields}
use Rattle.ping_measure.specs.Points.{Happened, counted, silent, strayed, is_silent, is_stray, points_at, points_in, points_of}
use Rattle.ping_measure.specs.Life.{Life, with, silences_of, is_over, last_of, deadline_of}

pub points_of-with : (happened : List Happened) (h : Happened)
    → points_of (happened ++ h ∷ []) ≡ points_of happened ++ points_at h
unfolding points_of
points_of-with happened h =
    flat_map-append points_at happened (h ∷ []) ∙ ap (λ l. points_of happened ++ l) (append-nil (points_at h))

-- what gives no point leaves them
pub points_of-kept : (happened : List Happened) (h : Happened) → points_at h ≡ []
    → points_of (happened ++ h ∷ []) ≡ points_of happened
points_of-kept happened h none =
    points_of-with happened h ∙ ap (λ l. points_of happened ++ l) none ∙ append-nil (points_of happened)

pub silences-with : (happened : List Happened) (h : Happened)
    → count_by is_silent (happened ++ h ∷ []) ≡ count_by is_silent happened + cond (is_silent h) 1 0
silences-with happened h = sum_by_push (λ e. cond (is_silent e) 1 0) happened h

stray-with : (happened : List Happened) (h : Happened)
    → list_any is_stray (happened ++ h ∷ []) ≡ (list_any is_stray happened || is_stray h)
stray-with [] h = or-false (is_stray h)
stray-with (x ∷ xs) h =
    ap (λ b. is_stray x || b) (stray-with xs h) ∙ sym (or_assoc (is_stray x) (list_any is_stray xs) (is_stray h))

-- the last moment
pub last_of-counted : (begun : ℤ) (happened : List Happened) (pong : PongFields) (at : ℤ)
    → last_of begun (happened ++ counted pong at ∷ []) ≡ at
last_of-counted begun [] pong at = refl
last_of-counted begun (counted p a ∷ xs) pong at = last_of-counted a xs pong at
last_of-counted begun (silent a ∷ xs) pong at = last_of-counted a xs pong at
last_of-counted begun (strayed s ∷ xs) pong at = last_of-counted begun xs pong at

pub last_of-silent : (begun : ℤ) (happened : List Happened) (at : ℤ) → last_of begun (happened ++ silent at ∷ []) ≡ at
last_of-silent begun [] at = refl
last_of-silent begun (counted p a ∷ xs) at = last_of-silent a xs at
last_of-silent begun (silent a ∷ xs) at = last_of-silent a xs at
last_of-silent begun (strayed s ∷ xs) at = last_of-silent begun xs at

-- all but the last
before_last : (happened : List Happened) (h : Happened)
    → take (length (happened ++ h ∷ []) - 1) (happened ++ h ∷ []) ≡ happened
before_last happened h =
    let e : length (happened ++ h ∷ []) - 1 ≡ length happened = omega (arith, length-append happened (h ∷ [])) in
    ap (λ n. take n (happened ++ h ∷ [])) e ∙ take-append_seam happened (h ∷ [])

-- ---- when it is over

parts_false : (a b c : Bool) → (a || b || c) ≡ false → (a ≡ false) × (b ≡ false) × (c ≡ false)
parts_false true b c e = absurd (false≢true (sym e))
parts_false false true c e = absurd (false≢true (sym e))
parts_false false false c e = (refl, refl, e)

first_alone : (a b c : Bool) → b ≡ false → c ≡ false → (a || b || c) ≡ a
first_alone a b c eb ec = ap (λ x. a || x || c) eb ∙ ap (λ x. a || false || x) ec ∙ or-false (a || false) ∙ or-false a

second_alone : (a b c : Bool) → a ≡ false → c ≡ false → (a || b || c) ≡ b
second_alone a b c ea ec = ap (λ x. x || b || c) ea ∙ ap (λ x. b || x) ec ∙ or-false b

third_alone : (a b c : Bool) → a ≡ false → b ≡ false → (a || b || c) ≡ c
third_alone a b c ea eb = ap (λ x. x || b || c) ea ∙ ap (λ x. x || c) eb

abbrev has_enough : List Happened → Bool
has_enough happened = nat_lt 100 (length (points_of happened))

abbrev is_silenced : List Happened → Bool
is_silenced happened = nat_le 6 (count_by is_silent happened)

abbrev has_strayed : List Happened → Bool
has_strayed happened = list_any is_stray happened

pub going_parts : (life : Life) → is_over life ≡ false
    → (has_enough life.happened ≡ false) × (is_silenced life.happened ≡ false) × (has_strayed life.happened ≡ false)
unfolding is_over
going_parts life going =
    parts_false (has_enough life.happened) (is_silenced life.happened) (has_strayed life.happened) going

-- a pong that counts
pub over-counted : (life : Life) (pong : PongFields) (at : ℤ) → is_over life ≡ false
    → is_over (with life (counted pong at)) ≡ nat_lt 100 (length (points_of life.happened ++ points_in pong at))
unfolding is_over
over-counted life pong at going =
    let h = counted pong at in
    let parts = going_parts life going in
    let more = life.happened ++ h ∷ [] in
    first_alone (has_enough more) (is_silenced more) (has_strayed more)
    (ap (λ n. nat_le 6 n) (silences-with life.happened h ∙ add-zero _) ∙ parts.1)
    (stray-with life.happened h ∙ or-false _ ∙ parts.2)
    ∙ ap (λ l. nat_lt 100 (length l)) (points_of-with life.happened h)

pub over-silent : (life : Life) (at : ℤ) → is_over life ≡ false
    → is_over (with life (silent at)) ≡ nat_le 6 (silences_of life + 1)
unfolding is_over
over-silent life at going =
    let h = silent at in
    let parts = going_parts life going in
    let more = life.happened ++ h ∷ [] in
    second_alone (has_enough more) (is_silenced more) (has_strayed more)
    (ap (λ l. nat_lt 100 (length l)) (points_of-kept life.happened h refl) ∙ parts.0)
    (stray-with life.happened h ∙ or-false _ ∙ parts.2)
    ∙ ap (λ n. nat_le 6 n) (silences-with life.happened h)

pub over-strayed : (life : Life) (session : NodeId) → is_over life ≡ false → is_over (with life (strayed session)) ≡ true
unfolding is_over
over-strayed life session going =
    let h = strayed session in
    let parts = going_parts life going in
    let more = life.happened ++ h ∷ [] in
    third_alone (has_enough more) (is_silenced more) (has_strayed more)
    (ap (λ l. nat_lt 100 (length l)) (points_of-kept life.happened h refl) ∙ parts.0)
    (ap (λ n. nat_le 6 n) (silences-with life.happened h ∙ add-zero _) ∙ parts.1)
    ∙ stray-with life.happened h
    ∙ ap (λ b. b || true) parts.2

-- ---- the deadline

pub deadline-going : (life : Life) → is_over life ≡ false → deadline_of life ≡ last_of life.begun life.happened +ℤ pos 50_000
unfolding deadline_of
deadline-going life going =
    ap (λ b. last_of life.begun (cond b (take (length life.happened - 1) life.happened) life.happened) +ℤ pos 50_000) going

-- what ends a measurement moves nothing
pub deadline-ended : (life : Life) (h : Happened) → is_over life ≡ false → is_over (with life h) ≡ true
    → deadline_of (with life h) ≡ deadline_of life
unfolding deadline_of
deadline-ended life h going over =
    let more = life.happened ++ h ∷ [] in
    ap (λ b. last_of life.begun (cond b (take (length more - 1) more) more) +ℤ pos 50_000) over
    ∙ ap (λ l. last_of life.begun l +ℤ pos 50_000) (before_last life.happened h)
    ∙ sym (deadline-going life going)

pub deadline-counted : (life : Life) (pong : PongFields) (at : ℤ) → is_over (with life (counted pong at)) ≡ false
    → deadline_of (with life (counted pong at)) ≡ at +ℤ pos 50_000
deadline-counted life pong at going =
    deadline-going (with life (counted pong at)) going
    ∙ ap (λ z. z +ℤ pos 50_000) (last_of-counted life.begun life.happened pong at)

pub deadline-silent : (life : Life) (at : ℤ) → is_over (with life (silent at)) ≡ false
    → deadline_of (with life (silent at)) ≡ at +ℤ pos 50_000
deadline-silent life at going =
    deadline-going (with life (silent at)) going
    ∙ ap (λ z. z +ℤ pos 50_000) (last_of-silent life.begun life.happened at)

-- ---- the opening

pub over-opening : (life : Life) → life.happened ≡ [] → is_over life ≡ false
unfolding is_over points_of
over-opening life e = rw e refl
