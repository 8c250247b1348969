-- How the clicks of a block are found, from whole beat to whole beat.
use Rattle.std.specs.Prelude.{◌≡◌, ◌*◌, ◌<◌, ℤ, pos, ◌+ℤ◌, ◌-ℤ◌, ◌*ℤ◌, ◌<ℤ◌, ◌≤ℤ◌, List, ◌∷◌, ◌++◌, length, unsigned_abs}
use Rattle.lk_base.specs.declared.timeline.Timeline.{Timeline}
use Rattle.lk_base.specs.declared.block.Click.{Click}
use Rattle.timeline_math.specs.Clicks.{since, click_at, clicks_from}

-- the clicks from a time up to but not another
unfoldable pub clicks_between : Timeline → ℤ → ℤ → ℤ → List Click
clicks_between tl q from to = clicks_from tl q from (unsigned_abs (to -ℤ from))

-- so many whole beats past the origin are the first that aren't passed before a time
pub record IsNextBeat (tl : Timeline) (beats from : ℤ) : Type 0 where
  pub low : ((beats -ℤ pos 1) *ℤ pos 1_000_000) ≤ℤ since tl (from -ℤ pos 1)
  pub high : since tl (from -ℤ pos 1) <ℤ (beats *ℤ pos 1_000_000)

-- the first click from a time on stands at `at`, where so many whole beats are passed
pub record IsBeatTime (tl : Timeline) (beats from end at : ℤ) : Type 0 where
  pub not_before : from ≤ℤ at
  pub inside : at <ℤ end
  pub next : IsNextBeat tl (beats +ℤ pos 1) (at +ℤ pos 1)
  pub early : (tl.time +ℤ beats *ℤ tl.mpb) ≤ℤ (at +ℤ pos 1)
  pub late : at ≤ℤ (tl.time +ℤ beats *ℤ tl.mpb)
  pub clicks : (q : ℤ) → clicks_between tl q from end ≡ click_at tl q at ∷ clicks_between tl q (at +ℤ pos 1) end

-- the clicks of a block up to a time have been found, and the next whole beat is known
pub record HasClicks (tl : Timeline) (q start end beats from : ℤ) (clicks : List Click) : Type 0 where
  pub next : IsNextBeat tl beats from
  pub later : start ≤ℤ from
  pub order : from ≤ℤ end
  -- the clicks are at least 60,060 microseconds apart, so a second has no more than 17
  pub apart : 0 < length clicks → (start +ℤ pos (length clicks * 60_060)) ≤ℤ (tl.time +ℤ (beats -ℤ pos 1) *ℤ tl.mpb +ℤ pos 60_060)
  pub last : 0 < length clicks → (tl.time +ℤ (beats -ℤ pos 1) *ℤ tl.mpb) ≤ℤ from
  pub list : clicks_between tl q start end ≡ clicks ++ clicks_between tl q from end
