-- From host time to ghost time and back, by the offset between them.
use Rattle.std.specs.Prelude.{ℤ, ◌+ℤ◌, ◌-ℤ◌}
use Rattle.lk_base.specs.Rounding.{clipped_of}

-- Rule: The ghost time, the clock of a session, is the host time plus the offset, clipped.
unfoldable pub ghost_of : ℤ → ℤ → ℤ
ghost_of offset host = clipped_of (host +ℤ offset)

-- Rule: The host time is the ghost time less the offset, clipped.
unfoldable pub host_of : ℤ → ℤ → ℤ
host_of offset ghost_time = clipped_of (ghost_time -ℤ offset)
