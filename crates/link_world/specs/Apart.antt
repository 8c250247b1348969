-- What a node has measured, for how far apart two nodes click.
use Rattle.std.specs.Prelude.{ℤ, ◌<◌, ◌^◌, length}
use Rattle.lk_base.specs.Ranges.{IsWithin}
use Rattle.ghost_xform.specs.Rank.{offset_of}
use Rattle.ping_measure.specs.Accuracy.{AreFair}
use Rattle.ping_measure.specs.Life.{Life}
use Rattle.ping_measure.specs.Points.{points_of}

-- Rule: Peers of one session that measured one clock, by honest pongs after at most r and s microseconds, click a beat at most (r + s) / 2
-- + 1 microseconds apart by that clock, where nothing is clipped.
-- The measurement is done, and each of its pongs was honest: of a clock that is ahead of the host's by `ahead`, after at most `round_trip`
pub record HasMeasured (life : Life) (ahead round_trip : ℤ) : Type 0 where
  pub done : 100 < length (points_of life.happened)
  pub clock : IsWithin (2 ^ 60) ahead
  pub fair : AreFair ahead round_trip life

-- the offset that it ends with
abbrev pub offset_by : Life → ℤ
offset_by life = offset_of (points_of life.happened)
