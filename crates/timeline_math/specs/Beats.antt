-- The beat at a time, and the time of a beat.
use Rattle.std.specs.Prelude.{ℤ, pos, ◌+ℤ◌, ◌-ℤ◌, ◌*ℤ◌}
use Rattle.lk_base.specs.Rounding.{clipped_of, nearest_of}
use Rattle.lk_base.specs.declared.timeline.Timeline.{Timeline}

-- Rule: The beat at a time t is clip(beat + round((t - time) * 1,000,000 / mpb)), in microbeats; mpb is the tempo in microseconds per beat.
unfoldable pub beat_at : Timeline → ℤ → ℤ
beat_at tl time =
    clipped_of (tl.beat +ℤ nearest_of ((time -ℤ tl.time) *ℤ pos 1_000_000) tl.mpb)

-- Rule: The time of a beat b is clip(time + round((b - beat) * mpb / 1,000,000)), in microseconds.
unfoldable pub time_at : Timeline → ℤ → ℤ
time_at tl beat =
    clipped_of (tl.time +ℤ nearest_of ((beat -ℤ tl.beat) *ℤ tl.mpb) (pos 1_000_000))
