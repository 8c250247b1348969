-- Timelines whose numbers are in their ranges.
use Rattle.std.specs.Prelude.{pos, ◌^◌, ◌≤ℤ◌}
use Rattle.lk_base.specs.Ranges.{IsWithin}
use Rattle.lk_base.specs.declared.timeline.Timeline.{Timeline}

-- Rule: A timeline is tidy where its tempo is from 60,060 to 3,000,000 microseconds per beat and both its origins are within 2^60 of 0.
pub record IsTidy (tl : Timeline) : Type 0 where
  pub slowest : tl.mpb ≤ℤ pos 3_000_000
  pub fastest : pos 60_060 ≤ℤ tl.mpb
  pub beat : IsWithin (2 ^ 60) tl.beat
  pub time : IsWithin (2 ^ 60) tl.time
