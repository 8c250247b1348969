-- The clicks of a timeline: the microseconds at which a whole beat is passed.
use Rattle.std.specs.Prelude.{ℕ, zero, suc, ◌^◌, ℤ, pos, ◌+ℤ◌, ◌-ℤ◌, ◌*ℤ◌, ◌<ℤ◌, ◌≤ℤ◌, Bool, int_lt, if◌then◌else◌, List, [], ◌∷◌, unsigned_abs}
use Rattle.lk_base.specs.Ranges.{IsWithin}
use Rattle.lk_base.specs.Rounding.{nearest_of}
use Rattle.lk_base.specs.declared.timeline.Timeline.{Timeline}
use Rattle.lk_base.specs.declared.block.Block.{Block}
use Rattle.lk_base.specs.declared.block.Click.{Click}
use Rattle.timeline_math.specs.Beats.{beat_at}
use Rattle.timeline_math.specs.Quantum.{phase_of}

-- how far the beat at a time is past the beat origin, in microbeats
unfoldable pub since : Timeline → ℤ → ℤ
since tl time = beat_at tl time -ℤ tl.beat

-- Rule: A click stands at each microsecond at which a whole beat, counted from the beat origin, is passed.
-- a time clicks where the phase within a beat is less than it was a microsecond before
unfoldable pub clicks_at : Timeline → ℤ → Bool
clicks_at tl time =
    int_lt
    (phase_of (since tl time) (pos 1_000_000))
    (phase_of (since tl (time -ℤ pos 1)) (pos 1_000_000))

-- Rule: A click is accented in the first beat of the quantum, and always where the quantum is 0.
unfoldable pub is_accented : Timeline → ℤ → ℤ → Bool
is_accented tl q time = int_lt (phase_of (since tl time) q) (pos 1_000_000)

-- the click at a time that clicks
unfoldable pub click_at : Timeline → ℤ → ℤ → Click
click_at tl q time = record { at = time; accent = is_accented tl q time }

-- the clicks of the n microseconds from a time on, in order
unfoldable pub clicks_from : Timeline → ℤ → ℤ → ℕ → List Click
clicks_from tl q time zero = []
clicks_from tl q time (suc n) =
    if clicks_at tl time then click_at tl q time ∷ clicks_from tl q (time +ℤ pos 1) n
    else clicks_from tl q (time +ℤ pos 1) n

-- Rule: The clicks of a block are those from its start up to but not its end, in order of time.
abbrev pub clicks_of : Timeline → Block → ℤ → List Click
clicks_of tl block q = clicks_from tl q block.start (unsigned_abs block.length)

-- Rule: A whole beat is passed in the one microsecond before which it is ahead and at which it isn't any more.
abbrev pub PassesBeat : Timeline → ℤ → ℤ → Type 0
PassesBeat tl k time = (since tl (time -ℤ pos 1) <ℤ (k *ℤ pos 1_000_000)) × ((k *ℤ pos 1_000_000) ≤ℤ since tl time)

-- some whole beat is passed
abbrev pub Passes : Timeline → ℤ → Type 0
Passes tl time = (k : ℤ) × PassesBeat tl k time

-- the microbeats from the time origin to a time
abbrev pub beats_past : Timeline → ℤ → ℤ
beats_past tl time = nearest_of ((time -ℤ tl.time) *ℤ pos 1_000_000) tl.mpb

-- Nothing is clipped, also a microsecond before: the beat origin, and the microbeats from the time origin to a time, are at most 2^58
-- away from 0, which is 4,500 years at 120 beats a minute.
pub record IsInReach (tl : Timeline) (time : ℤ) : Type 0 where
  pub origin : IsWithin (2 ^ 58) tl.beat
  pub past : IsWithin (2 ^ 58) (beats_past tl time)
