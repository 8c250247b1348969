-- Frames of audio: 48,000 a second, counted from an origin.
use Rattle.std.specs.Prelude.{ℕ, ◌+◌, ◌*◌, ◌/◌, ℤ, pos, ◌+ℤ◌, ◌-ℤ◌}

-- Rule: A frame begins at a whole microsecond, rounded down, 48,000 frames a second.
-- the microsecond at which a frame begins, rounded down: a frame lasts 125/6 of them
unfoldable pub frame_time : ℤ → ℕ → ℤ
frame_time origin frame = origin +ℤ pos (frame * 125 / 6)

-- the last microsecond before a frame
abbrev pub before : ℤ → ℕ → ℤ
before origin frame = frame_time origin frame -ℤ pos 1

-- the last microsecond of a frame
abbrev pub end_of : ℤ → ℕ → ℤ
end_of origin frame = frame_time origin (frame + 1) -ℤ pos 1
