-- The life of a measurement: how it began and what happened to it, and what follows from that.
use Rattle.std.specs.Prelude.{◌≡◌, ℕ, ℤ, pos, ◌+◌, ◌-◌, ◌+ℤ◌, int_lt, nat_lt, nat_le, Bool, ◌&&◌, ◌||◌, ◌==◌, not, if◌then◌else◌, List, [], ◌∷◌, ◌++◌, length, take, count_by, Some, None}
use Rattle.std.specs.List.{list_any}
use Rattle.ghost_xform.specs.Rank.{offset_of}
use Rattle.lk_base.specs.IdOrder.{same_id}
use Rattle.lk_base.specs.declared.endpoint.Endpoint.{Endpoint}
use Rattle.lk_base.specs.declared.endpoint.Gate.{Gate}
use Rattle.lk_base.specs.declared.endpoint.Target.{Target}
use Rattle.lk_base.specs.declared.ids.NodeId.{NodeId}
use Rattle.link_payload.specs.declared.fields.PongFields.{PongFields}
use Rattle.ping_measure.specs.Points.{Happened, counted, silent, strayed, is_silent, is_stray, points_in, points_of}
use Rattle.ping_measure.specs.declared.measure.Measure.{Measure}
use Rattle.ping_measure.specs.declared.outcome.MeasureFault.TheVariants.{Silence, OtherSession}
use Rattle.ping_measure.specs.declared.outcome.Outcome.{Outcome}
use Rattle.ping_measure.specs.declared.outcome.Outcome.TheVariants.{Idle, Again, Done, Failed}

pub record Life : Type 0 where
  pub target : Target
  pub session : NodeId
  pub begun : ℤ
  pub happened : List Happened

-- Rule: A measurement of a session begins with a ping to its target, which carries the host time alone.
abbrev pub opening : Target → NodeId → ℤ → Life
opening target session now = record { target = target; session = session; begun = now; happened = [] }

abbrev pub with : Life → Happened → Life
with life happening = record life { happened = life.happened ++ happening ∷ [] }

abbrev pub silences_of : Life → ℕ
silences_of life = count_by is_silent life.happened

-- more than 100 points, six silences, or a pong of the target from another session
unfoldable pub is_over : Life → Bool
is_over life =
    nat_lt 100 (length (points_of life.happened)) || nat_le 6 (silences_of life) || list_any is_stray life.happened

-- What a ping was sent after: all that happened, but for what ended the measurement.
abbrev pub answered_in : Life → List Happened
answered_in life = if is_over life then take (length life.happened - 1) life.happened else life.happened

-- the moment of the last of these, or of the start
abbrev pub last_of : ℤ → List Happened → ℤ
last_of begun [] = begun
last_of begun (counted pong at ∷ later) = last_of at later
last_of begun (silent at ∷ later) = last_of at later
last_of begun (strayed session ∷ later) = last_of begun later

-- Rule: The deadline of a measurement is 50,000 microseconds after its last ping.
unfoldable pub deadline_of : Life → ℤ
deadline_of life = last_of life.begun (answered_in life) +ℤ pos 50_000

-- ---- a pong

-- Rule: A pong that comes from another gate or endpoint than the target's is passed over.
abbrev pub is_from : Target → Gate → Endpoint → Bool
is_from target gate from =
    (gate.0 == target.gate.0) && (from.addr == target.endpoint.addr) && (from.port == target.endpoint.port)

-- Rule: A pong that counts is answered with a further ping, until there are more than 100 points; then the measurement is done.
abbrev pub counted_outcome : Life → PongFields → ℤ → Outcome
counted_outcome life pong now =
    let points = points_of life.happened ++ points_in pong now in
    if nat_lt 100 (length points) then Done (record { offset = offset_of points })
    else Again (record { host = now; previous = Some pong.ghost_time })

-- Rule: A pong of the target that is of another session ends the measurement, which has failed.
unfoldable pub pong_outcome : Life → Gate → Endpoint → PongFields → ℤ → Outcome
pong_outcome life gate from pong now =
    if is_over life || not (is_from life.target gate from) then Idle
    else if not (same_id pong.session life.session) then Failed (OtherSession pong.session)
    else if length (points_in pong now) == 0 then Idle
    else counted_outcome life pong now

unfoldable pub pong_after : Life → Gate → Endpoint → PongFields → ℤ → Life
pong_after life gate from pong now =
    if is_over life || not (is_from life.target gate from) then life
    else if not (same_id pong.session life.session) then with life (strayed pong.session)
    else if length (points_in pong now) == 0 then life
    else with life (counted pong now)

-- ---- a tick

-- Rule: A silence is a tick at or after the deadline; a tick before the deadline changes nothing.
-- over, or before the deadline
abbrev pub is_early : Life → ℤ → Bool
is_early life now = is_over life || int_lt now (deadline_of life)

-- Rule: Each of the first five silences is answered with a further ping, and the sixth ends the measurement, which has failed.
unfoldable pub tick_outcome : Life → ℤ → Outcome
tick_outcome life now =
    if is_early life now then Idle
    else if nat_lt (silences_of life + 1) 6 then Again (record { host = now; previous = None })
    else Failed Silence

unfoldable pub tick_after : Life → ℤ → Life
tick_after life now = if is_early life now then life else with life (silent now)

-- ---- what is kept of a life

pub record StandsFor (measure : Measure) (life : Life) : Type 0 where
  pub target : measure.target ≡ life.target
  pub session : measure.session ≡ life.session
  pub points : measure.points.items ≡ points_of life.happened
  pub silences : measure.silences ≡ silences_of life
  pub deadline : measure.deadline ≡ deadline_of life
  pub over : measure.over ≡ is_over life
