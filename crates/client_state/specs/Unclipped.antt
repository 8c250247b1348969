-- Premises of the laws: where no number on the way is clipped.
use Rattle.std.specs.Prelude.{ℤ, pos, ◌+ℤ◌, ◌-ℤ◌, ◌*ℤ◌}
use Rattle.lk_base.specs.Ranges.{IsWithinLimit}
use Rattle.lk_base.specs.Rounding.{nearest_of}
use Rattle.lk_base.specs.declared.timeline.Timeline.{Timeline}
use Rattle.timeline_math.specs.Beats.{beat_at}
use Rattle.timeline_math.specs.Encoding.{encoded_beat}
use Rattle.timeline_math.specs.Quantum.{phase_of, next_match_of, closest_match_of}
use Rattle.timeline_math.specs.Tidying.{clamped_of}
use Rattle.client_state.specs.Edits.{timeline_at, match_of, shift_of, advance_of, next_time_of, forced_of}
use Rattle.client_state.specs.Timelines.{going_on, zero_time_of, client_from_session_of}

-- the beat at a time and the time of a beat, before they are clipped
abbrev pub wide_beat_at : Timeline → ℤ → ℤ
wide_beat_at tl time = tl.beat +ℤ nearest_of ((time -ℤ tl.time) *ℤ pos 1_000_000) tl.mpb

abbrev pub wide_time_at : Timeline → ℤ → ℤ
wide_time_at tl beat = tl.time +ℤ nearest_of ((beat -ℤ tl.beat) *ℤ tl.mpb) (pos 1_000_000)

-- the beat that an encoded beat has the time of, before it is clipped
unfoldable pub wide_decoded_of : Timeline → ℤ → ℤ → ℤ
wide_decoded_of tl beat q =
    let from = beat -ℤ tl.beat in
    let past = phase_of from q in
    let inside = closest_match_of (q -ℤ past) (q -ℤ phase_of beat q) q in
    tl.beat +ℤ from -ℤ past +ℤ (q -ℤ inside)

-- the new time origin
abbrev pub IsUnclippedTempo : Timeline → ℤ → ℤ → Type 0
IsUnclippedTempo tl mpb at = IsWithinLimit (wide_time_at (timeline_at (clamped_of mpb) (beat_at tl at) at) tl.beat)

-- Rule: Where nothing is clipped, `force_beat` makes the beat at that time, counted from the beat origin, the forced one but for whole
-- quanta and at most 17 microbeats, and with the quantum 0 the beat itself exactly that.
pub record IsUnclippedForce (tl : Timeline) (beat at q : ℤ) : Type 0 where
  pub before : IsWithinLimit (wide_beat_at tl at)
  pub shift : IsWithinLimit (shift_of tl beat at q)
  pub shifted_time : IsWithinLimit (wide_time_at tl (shift_of tl beat at q))
  pub zero_time : IsWithinLimit (wide_time_at tl (pos 0))
  pub time : IsWithinLimit (tl.time -ℤ advance_of tl (shift_of tl beat at q))
  pub origin : IsWithinLimit (tl.beat +ℤ (beat -ℤ match_of tl beat at q))
  pub after : IsWithinLimit (wide_beat_at (forced_of tl beat at q) at)

-- the next match of the beat, from the encoded beat at the time on
abbrev pub wide_match_of : Timeline → ℤ → ℤ → ℤ → ℤ
wide_match_of tl beat at q = next_match_of (encoded_beat tl at q) beat q

-- that match, the beat that it has the time of, that time, and the new beat origin
pub record IsUnclippedRequest (tl : Timeline) (beat at q : ℤ) : Type 0 where
  pub match : IsWithinLimit (wide_match_of tl beat at q)
  pub decoded : IsWithinLimit (wide_decoded_of tl (wide_match_of tl beat at q) q)
  pub next_time : IsWithinLimit (wide_time_at tl (wide_decoded_of tl (wide_match_of tl beat at q) q))
  pub origin : IsWithinLimit (tl.beat +ℤ (beat -ℤ match_of tl beat (next_time_of tl beat at q) q))

-- the beats now, at the session's beat 0, and at the time that is looked at, on both lines
pub record IsUnclippedReturn (client given : Timeline) (now offset time : ℤ) : Type 0 where
  pub moment : IsWithinLimit (wide_beat_at client now)
  pub zero : IsWithinLimit (wide_beat_at (going_on client given now) (zero_time_of given offset))
  pub before : IsWithinLimit (wide_beat_at client time)
  pub after : IsWithinLimit (wide_beat_at (client_from_session_of client given now offset) time)
