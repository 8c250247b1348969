-- Timelines brought into the ranges of their numbers.
use Rattle.std.specs.Prelude.{ℤ, pos}
use Rattle.std.specs.Int.{int_max, int_min}
use Rattle.lk_base.specs.Rounding.{clipped_of}
use Rattle.lk_base.specs.declared.timeline.Timeline.{Timeline}

-- Rule: A tempo is clamped to 60,060 to 3,000,000 microseconds per beat, which is 999 to 20 beats per minute.
abbrev pub clamped_of : ℤ → ℤ
clamped_of mpb = int_max (pos 60_060) (int_min mpb (pos 3_000_000))

-- the tempo clamped, both origins clipped
abbrev pub tidy_of : Timeline → Timeline
tidy_of tl =
    record { mpb = clamped_of tl.mpb; beat = clipped_of tl.beat; time = clipped_of tl.time }
