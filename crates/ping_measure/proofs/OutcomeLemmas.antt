-- What follows from a pong or a tick, case by case.
use Rattle.std.proofs.Common.{◌≡◌, ◌+◌, Bool, true, false, ◌||◌, ◌==◌, not, if◌then◌else◌, [], ◌∷◌, ℤ, int_lt, nat_lt, length, refl, sym, ap, ◌∙◌, None}
use Rattle.std.proofs.Math.Dec.{eqb-suc-zero}
use Rattle.lk_base.specs.IdOrder.{same_id}
use Rattle.lk_base.specs.declared.endpoint.Endpoint.{Endpoint}
use Rattle.lk_base.specs.declared.endpoint.Gate.{Gate}
use Rattle.lk_base.specs.declared.ids.NodeId.{NodeId}
use Rattle.link_payload.specs.declared.fields.PongFields.{PongFields}
use Rattle.ping_measure.specs.Points.{counted, silent, strayed, is_zero, point_of, point_before_of, points_in}
use Rattle.ping_measure.specs.Life.{Life, StandsFor, with, silences_of, is_over, is_from, is_early, counted_outcome, pong_outcome, pong_after, tick_outcome, tick_after}
use Rattle.ping_measure.specs.declared.measure.Measure.{Measure}
use Rattle.ping_measure.specs.declared.outcome.MeasureFault.TheVariants.{Silence, OtherSession}
use Rattle.ping_measure.specs.declared.outcome.Outcome.{Outcome}
use Rattle.ping_measure.specs.declared.outcome.Outcome.TheVariants.{Idle, Again, Failed}

-- ---- a test and its contrary

pub passes : (b : Bool) → not b ≡ false → b ≡ true
passes true e = refl
passes false e = sym e

pub fails : (b : Bool) → not b ≡ true → b ≡ false
fails true e = sym e
fails false e = refl

-- ---- a tick

pub is_early-from : (measure : Measure) (life : Life) (now : ℤ) → StandsFor measure life
    → (measure.over || int_lt now measure.deadline) ≡ is_early life now
is_early-from measure life now stands =
    ap (λ b. b || int_lt now measure.deadline) stands.over ∙ ap (λ z. is_over life || int_lt now z) stands.deadline

pub tick-early : (life : Life) (now : ℤ) → is_early life now ≡ true
    → (tick_outcome life now ≡ Idle) × (tick_after life now ≡ life)
unfolding tick_outcome tick_after
tick-early life now e = (rw e refl, rw e refl)

-- the answer to a silence
abbrev pub silent_outcome : Life → ℤ → Outcome
silent_outcome life now =
    if nat_lt (silences_of life + 1) 6 then Again (record { host = now; previous = None }) else Failed Silence

pub tick-late : (life : Life) (now : ℤ) → is_early life now ≡ false
    → (tick_outcome life now ≡ silent_outcome life now) × (tick_after life now ≡ with life (silent now))
unfolding tick_outcome tick_after
tick-late life now e = (rw e refl, rw e refl)

-- ---- a pong

-- what a measurement asks, of the life that it stands for
pub heard-from : (measure : Measure) (life : Life) (gate : Gate) (from : Endpoint) (asked b : Bool) → StandsFor measure life
    → asked ≡ (measure.over || not (is_from measure.target gate from)) → asked ≡ b
    → (is_over life || not (is_from life.target gate from)) ≡ b
heard-from measure life gate from asked b stands e is =
    ap (λ x. x || not (is_from life.target gate from)) (sym stands.over)
    ∙ ap (λ t. measure.over || not (is_from t gate from)) (sym stands.target)
    ∙ sym e
    ∙ is

pub same-from : (measure : Measure) (life : Life) (session : NodeId) (differs : Bool) → StandsFor measure life
    → differs ≡ not (same_id session measure.session) → differs ≡ false → same_id session life.session ≡ true
same-from measure life session differs stands e is =
    ap (λ s. same_id session s) (sym stands.session) ∙ passes (same_id session measure.session) (sym e ∙ is)

pub other-from : (measure : Measure) (life : Life) (session : NodeId) (differs : Bool) → StandsFor measure life
    → differs ≡ not (same_id session measure.session) → differs ≡ true → same_id session life.session ≡ false
other-from measure life session differs stands e is =
    ap (λ s. same_id session s) (sym stands.session) ∙ fails (same_id session measure.session) (sym e ∙ is)

pub points-none : (pong : PongFields) (now : ℤ) → (is_zero pong.ghost_time || is_zero pong.host) ≡ true
    → points_in pong now ≡ []
unfolding points_in
points-none pong now e = rw e refl

pub points-some : (pong : PongFields) (now : ℤ) → (is_zero pong.ghost_time || is_zero pong.host) ≡ false
    → (length (points_in pong now) == 0) ≡ false
unfolding points_in
points-some pong now e = rw e (eqb-suc-zero _)

pub points-one : (pong : PongFields) (now : ℤ) → (is_zero pong.ghost_time || is_zero pong.host) ≡ false
    → is_zero pong.previous ≡ true → points_in pong now ≡ point_of pong now ∷ []
unfolding points_in
points-one pong now e first = rw (e, first) refl

pub points-two : (pong : PongFields) (now : ℤ) → (is_zero pong.ghost_time || is_zero pong.host) ≡ false
    → is_zero pong.previous ≡ false → points_in pong now ≡ point_of pong now ∷ point_before_of pong ∷ []
unfolding points_in
points-two pong now e more = rw (e, more) refl

pub pong-ignored : (life : Life) (gate : Gate) (from : Endpoint) (pong : PongFields) (now : ℤ)
    → (is_over life || not (is_from life.target gate from)) ≡ true
    → (pong_outcome life gate from pong now ≡ Idle) × (pong_after life gate from pong now ≡ life)
unfolding pong_outcome pong_after
pong-ignored life gate from pong now e = (rw e refl, rw e refl)

pub pong-strayed : (life : Life) (gate : Gate) (from : Endpoint) (pong : PongFields) (now : ℤ)
    → (is_over life || not (is_from life.target gate from)) ≡ false → same_id pong.session life.session ≡ false
    → (pong_outcome life gate from pong now ≡ Failed (OtherSession pong.session))
    × (pong_after life gate from pong now ≡ with life (strayed pong.session))
unfolding pong_outcome pong_after
pong-strayed life gate from pong now e other = (rw (e, other) refl, rw (e, other) refl)

pub pong-empty : (life : Life) (gate : Gate) (from : Endpoint) (pong : PongFields) (now : ℤ)
    → (is_over life || not (is_from life.target gate from)) ≡ false → same_id pong.session life.session ≡ true
    → (is_zero pong.ghost_time || is_zero pong.host) ≡ true
    → (pong_outcome life gate from pong now ≡ Idle) × (pong_after life gate from pong now ≡ life)
unfolding pong_outcome pong_after
pong-empty life gate from pong now e same none =
    let no_points = points-none pong now none in
    (rw (e, same, no_points) refl, rw (e, same, no_points) refl)

pub pong-counted : (life : Life) (gate : Gate) (from : Endpoint) (pong : PongFields) (now : ℤ)
    → (is_over life || not (is_from life.target gate from)) ≡ false → same_id pong.session life.session ≡ true
    → (is_zero pong.ghost_time || is_zero pong.host) ≡ false
    → (pong_outcome life gate from pong now ≡ counted_outcome life pong now)
    × (pong_after life gate from pong now ≡ with life (counted pong now))
unfolding pong_outcome pong_after
pong-counted life gate from pong now e same some =
    let points = points-some pong now some in
    (rw (e, same, points) refl, rw (e, same, points) refl)
