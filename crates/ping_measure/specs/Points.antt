-- What happens to a measurement, and the points that its pongs give.
use Rattle.std.specs.Prelude.{ℤ, pos, ◌+ℤ◌, ◌-ℤ◌, Bool, true, false, ◌||◌, if◌then◌else◌, List, [], ◌∷◌}
use Rattle.std.specs.Ordering.{int_eq}
use Rattle.std.specs.List.{flat_map}
use Rattle.lk_base.specs.declared.ids.NodeId.{NodeId}
use Rattle.link_payload.specs.declared.fields.PongFields.{PongFields}

-- A pong that counts, with its arrival; a tick at or after the deadline; a pong of the target from another session.
pub data Happened : Type 0 where
  counted : (pong : PongFields) → (at : ℤ) → Happened
  silent : (at : ℤ) → Happened
  strayed : (session : NodeId) → Happened

abbrev pub is_counted : Happened → Bool
is_counted (counted pong at) = true
is_counted (silent at) = false
is_counted (strayed session) = false

abbrev pub is_silent : Happened → Bool
is_silent (counted pong at) = false
is_silent (silent at) = true
is_silent (strayed session) = false

abbrev pub is_stray : Happened → Bool
is_stray (counted pong at) = false
is_stray (silent at) = false
is_stray (strayed session) = true

-- Rule: A pong that came at h with the ghost time g to a ping of host time p gives the point 2g - (h + p), in half microseconds.
-- Twice the offset, in half microseconds, as if the pong was sent half way between ping and arrival: 2g - (h + p) of
-- the ghost time g, the arrival h and the ping's host time p.
abbrev pub point_of : PongFields → ℤ → ℤ
point_of pong at = pong.ghost_time +ℤ pong.ghost_time -ℤ (at +ℤ pong.host)

-- And as if the ping was sent half way between the pong before it and this one: (g + v) - 2p of the ghost time v before.
abbrev pub point_before_of : PongFields → ℤ
point_before_of pong = pong.ghost_time +ℤ pong.previous -ℤ (pong.host +ℤ pong.host)

abbrev pub is_zero : ℤ → Bool
is_zero z = int_eq z (pos 0)

-- Rule: A pong gives no point without a ghost time or a host time, one without the ghost time v of the pong before, and else a second one,
-- (g + v) - 2p.
unfoldable pub points_in : PongFields → ℤ → List ℤ
points_in pong at =
    if is_zero pong.ghost_time || is_zero pong.host then []
    else point_of pong at ∷ (if is_zero pong.previous then [] else point_before_of pong ∷ [])

abbrev pub points_at : Happened → List ℤ
points_at (counted pong at) = points_in pong at
points_at (silent at) = []
points_at (strayed session) = []

-- all points, in order
unfoldable pub points_of : List Happened → List ℤ
points_of happened = flat_map points_at happened
