-- Beats that carry the phase of a timeline, and the times of such beats.
use Rattle.std.specs.Prelude.{ℤ, ◌+ℤ◌, ◌-ℤ◌}
use Rattle.lk_base.specs.Rounding.{clipped_of}
use Rattle.lk_base.specs.declared.timeline.Timeline.{Timeline}
use Rattle.timeline_math.specs.Beats.{beat_at, time_at}
use Rattle.timeline_math.specs.Quantum.{phase_of, closest_match_of}

-- Rule: The encoded beat, which clients see, is the match closest to the beat at a time with the phase of how far that beat is past the
-- beat origin.
unfoldable pub encoded_beat : Timeline → ℤ → ℤ → ℤ
encoded_beat tl time q =
    let beat = beat_at tl time in
    closest_match_of beat (beat -ℤ tl.beat) q

-- the time of an encoded beat: from its place past the origin the phase there is taken, and the phase
-- that the beat itself carries is put in its place
unfoldable pub encoded_time : Timeline → ℤ → ℤ → ℤ
encoded_time tl beat q =
    let from = beat -ℤ tl.beat in
    let past = phase_of from q in
    let inside = closest_match_of (q -ℤ past) (q -ℤ phase_of beat q) q in
    time_at tl (clipped_of (tl.beat +ℤ from -ℤ past +ℤ (q -ℤ inside)))
