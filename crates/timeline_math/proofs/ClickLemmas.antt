-- A click stands where a whole beat is passed, and where that is.
use Rattle.std.proofs.Common.{◌≡◌, ℕ, suc, ◌+◌, ◌*◌, ◌^◌, ◌<◌, ◌≤◌, ℤ, pos, negsuc, ◌+ℤ◌, ◌-ℤ◌, ◌*ℤ◌, ◌<ℤ◌, ◌≤ℤ◌, neg_ℤ, true, int_lt, ap, sym, ◌∙◌, arith}
use Rattle.std.proofs.lemmas.Int.{ints, clamps, by_lt_z}
use Rattle.std.specs.Int.{int_div_euclid}
use borrow.Author.Differences.{up, down}
use native.Mathlib.Nat.{mul-le-mul_left}
use Rattle.lk_base.specs.Ranges.{IsWithin}
use Rattle.lk_base.specs.Rounding.{nearest_of}
use Rattle.lk_base.specs.Timeline.{IsTidy}
use Rattle.lk_base.specs.declared.timeline.Timeline.{Timeline}
use Rattle.lk_base.proofs.RoundingLemmas.{scaled_le, nearest_of-IsNearest, nearest_of-le}
use Rattle.timeline_math.specs.Beats.{beat_at}
use Rattle.timeline_math.specs.Clicks.{since, clicks_at, is_accented, beats_past, IsInReach, Passes, PassesBeat}
use Rattle.timeline_math.specs.Metronome.{IsNextBeat}
use Rattle.timeline_math.specs.Quantum.{phase_of}
use Rattle.timeline_math.proofs.BeatLemmas.{beat_at-le}
use Rattle.timeline_math.proofs.QuantumLemmas.{phase_of-divides, phase_of-low, phase_of-below}

pub since-le : (tl : Timeline) (a b : ℤ) → IsTidy tl → a ≤ℤ b → since tl a ≤ℤ since tl b
unfolding since
since-le tl a b tidy le = omega (arith, ints, beat_at-le tl a b tidy le)

pub since-within : (tl : Timeline) (time : ℤ) → IsTidy tl → IsWithin (2 ^ 61) (since tl time)
unfolding since beat_at
since-within tl time tidy =
    let beat = tidy.beat in
    omega (arith, ints, clamps)

-- numbers a million apart have nearest numbers less than a million apart
near_step : (n d : ℤ) → pos 2 ≤ℤ d → nearest_of (n +ℤ pos 1_000_000) d <ℤ (nearest_of n d +ℤ pos 1_000_000)
near_step n (pos m) h =
    let a = nearest_of n (pos m) in
    let b = nearest_of (n +ℤ pos 1_000_000) (pos m) in
    let neara = (nearest_of-IsNearest n (pos m) (omega (arith, ints))).near in
    let nearb = (nearest_of-IsNearest (n +ℤ pos 1_000_000) (pos m) (omega (arith, ints))).near in
    by_lt_z b (a +ℤ pos 1_000_000)
    (λ lt. lt)
    (λ ge. let apart = scaled_le a b 1_000_000 m ge in absurd (omega (arith, ints)))
near_step n (negsuc m) h = absurd (omega (arith, ints))

-- in a microsecond less than a beat passes
pub since-step : (tl : Timeline) (time : ℤ) → IsTidy tl → since tl time <ℤ (since tl (time -ℤ pos 1) +ℤ pos 1_000_000)
unfolding since beat_at
since-step tl time tidy =
    let fastest = tidy.fastest in
    let n = (time -ℤ pos 1 -ℤ tl.time) *ℤ pos 1_000_000 in
    let step = near_step n tl.mpb (omega (arith, ints)) in
    let next : (time -ℤ tl.time) *ℤ pos 1_000_000 ≡ n +ℤ pos 1_000_000 = omega (arith, ints) in
    let same = ap (λ z. nearest_of z tl.mpb) next in
    omega (arith, ints, clamps)

-- numbers c apart have nearest numbers at most k apart, where k tempos are more than c
nearest_apart : (n d : ℤ) (c k : ℕ) → pos 60_060 ≤ℤ d → c < k * 60_060 → nearest_of (n +ℤ pos c) d ≤ℤ (nearest_of n d +ℤ pos k)
nearest_apart n (pos m) c k h small =
    let a = nearest_of n (pos m) in
    let b = nearest_of (n +ℤ pos c) (pos m) in
    let neara = (nearest_of-IsNearest n (pos m) (omega (arith, ints))).near in
    let nearb = (nearest_of-IsNearest (n +ℤ pos c) (pos m) (omega (arith, ints))).near in
    let slow : k * 60_060 ≤ k * m = mul-le-mul_left k (omega (arith, ints)) in
    by_lt_z (a +ℤ pos k) b
    (λ lt. let apart = scaled_le a b (suc k) m (omega (arith, ints)) in absurd (omega (arith, ints)))
    (λ le. le)
nearest_apart n (negsuc m) c k h small = absurd (omega (arith, ints))

-- how far the beat gets in a gap
pub since-apart : (tl : Timeline) (time : ℤ) (gap c k : ℕ) → IsTidy tl → c ≡ gap * 1_000_000 → c < k * 60_060 → since tl (time +ℤ pos gap) ≤ℤ (since tl time +ℤ pos k)
unfolding since beat_at
since-apart tl time gap c k tidy e small =
    let n = (time -ℤ tl.time) *ℤ pos 1_000_000 in
    let next : (time +ℤ pos gap -ℤ tl.time) *ℤ pos 1_000_000 ≡ n +ℤ pos c = omega (arith, ints) in
    let same = ap (λ z. nearest_of z tl.mpb) next in
    let apart = nearest_apart n tl.mpb c k tidy.fastest small in
    omega (arith, ints, clamps)

-- what the quotient that rounds down is
pub div_parts : (a : ℤ) (k : ℕ) → 0 < k → (up (int_div_euclid a (pos k)) * k + down a ≤ down (int_div_euclid a (pos k)) * k + up a) × (down (int_div_euclid a (pos k)) * k + up a < up (int_div_euclid a (pos k)) * k + down a + k)
div_parts (pos a) k h = omega arith
div_parts (negsuc a) k h = omega arith

-- the phase within a beat falls exactly where a multiple is passed
phase_falls : (x y : ℤ) → x ≤ℤ y → y <ℤ (x +ℤ pos 1_000_000) → phase_of y (pos 1_000_000) <ℤ phase_of x (pos 1_000_000) → (k : ℤ) × (x <ℤ (k *ℤ pos 1_000_000)) × ((k *ℤ pos 1_000_000) ≤ℤ y)
phase_falls x y le near falls =
    let million : 0 < 1_000_000 = omega arith in
    let byx = phase_of-divides x 1_000_000 million in
    let byy = phase_of-divides y 1_000_000 million in
    let lowx = phase_of-low x (pos 1_000_000) in
    let lowy = phase_of-low y (pos 1_000_000) in
    let highx = phase_of-below x (pos 1_000_000) (omega (arith, ints)) in
    (byy.0, omega (arith, ints, byx.1, byy.1), omega (arith, ints, byy.1))

falls_between : (x y k : ℤ) → x ≤ℤ y → y <ℤ (x +ℤ pos 1_000_000) → x <ℤ (k *ℤ pos 1_000_000) → (k *ℤ pos 1_000_000) ≤ℤ y → phase_of y (pos 1_000_000) <ℤ phase_of x (pos 1_000_000)
falls_between x y k le near over under =
    let million : 0 < 1_000_000 = omega arith in
    let byx = phase_of-divides x 1_000_000 million in
    let byy = phase_of-divides y 1_000_000 million in
    let lowx = phase_of-low x (pos 1_000_000) in
    let lowy = phase_of-low y (pos 1_000_000) in
    let highy = phase_of-below y (pos 1_000_000) (omega (arith, ints)) in
    omega (arith, ints, byx.1, byy.1)

pub click_passes : (tl : Timeline) (time : ℤ) → IsTidy tl → clicks_at tl time ≡ true → Passes tl time
unfolding clicks_at
click_passes tl time tidy clicks =
    let falls = phase_falls (since tl (time -ℤ pos 1)) (since tl time) (since-le tl (time -ℤ pos 1) time tidy (omega (arith, ints))) (since-step tl time tidy) (omega (arith, ints)) in
    (falls.0, (falls.1, falls.2))

pub passing_clicks : (tl : Timeline) (time : ℤ) → IsTidy tl → Passes tl time → clicks_at tl time ≡ true
unfolding clicks_at
passing_clicks tl time tidy passes =
    let falls = falls_between (since tl (time -ℤ pos 1)) (since tl time) passes.0 (since-le tl (time -ℤ pos 1) time tidy (omega (arith, ints))) (since-step tl time tidy) passes.1.0 passes.1.1 in
    let e : true ≡ int_lt (phase_of (since tl time) (pos 1_000_000)) (phase_of (since tl (time -ℤ pos 1)) (pos 1_000_000)) = omega (arith, ints) in
    sym e

-- ---- one beat, and two timelines of one tempo

-- a beat that is passed at both isn't passed later at one of them
passed_before : (tl : Timeline) (k one other : ℤ) → IsTidy tl → PassesBeat tl k one → PassesBeat tl k other → one <ℤ other → ⊥
passed_before tl k one other tidy at_one at_other lt =
    let le = since-le tl one (other -ℤ pos 1) tidy (omega (arith, ints)) in
    omega (arith, ints, at_one.1, at_other.0)

pub passed_once : (tl : Timeline) (k one other : ℤ) → IsTidy tl → PassesBeat tl k one → PassesBeat tl k other → one ≡ other
passed_once tl k one other tidy at_one at_other =
    let no = passed_before tl k one other tidy at_one at_other in
    let nor = passed_before tl k other one tidy at_other at_one in
    by_lt_z one other
    (λ lt. absurd (no lt))
    (λ le. by_lt_z other one (λ lt. absurd (nor lt)) (λ ge. omega (arith, ints)))

-- a microsecond before, the beats from the time origin on are less than a beat behind
past_before : (tl : Timeline) (time : ℤ) → IsTidy tl → (beats_past tl (time -ℤ pos 1) ≤ℤ beats_past tl time) × (beats_past tl time <ℤ (beats_past tl (time -ℤ pos 1) +ℤ pos 1_000_000))
past_before tl time tidy =
    let fastest = tidy.fastest in
    let n = (time -ℤ pos 1 -ℤ tl.time) *ℤ pos 1_000_000 in
    let next : (time -ℤ tl.time) *ℤ pos 1_000_000 ≡ n +ℤ pos 1_000_000 = omega (arith, ints) in
    let same = ap (λ z. nearest_of z tl.mpb) next in
    let rises = nearest_of-le n (n +ℤ pos 1_000_000) tl.mpb (omega (arith, ints)) (omega (arith, ints)) in
    let step = near_step n tl.mpb (omega (arith, ints)) in
    (omega (arith, ints), omega (arith, ints))

-- in reach the beats past the beat origin are those from the time origin on
since-past : (tl : Timeline) (time : ℤ) → IsTidy tl → IsInReach tl time → (since tl time ≡ beats_past tl time) × (since tl (time -ℤ pos 1) ≡ beats_past tl (time -ℤ pos 1))
unfolding since beat_at
since-past tl time tidy reach =
    let origin = reach.origin in
    let past = reach.past in
    let before = past_before tl time tidy in
    (omega (arith, ints, clamps), omega (arith, ints, clamps, before.0, before.1))

-- a timeline of the same tempo, as far from its time origin
alike : (tl other : Timeline) (time there : ℤ) → IsTidy tl → IsTidy other → tl.mpb ≡ other.mpb → (time -ℤ tl.time) ≡ (there -ℤ other.time) → IsInReach tl time → IsInReach other there → (since tl time ≡ since other there) × (since tl (time -ℤ pos 1) ≡ since other (there -ℤ pos 1))
alike tl other time there tidy other_tidy tempo far reach there_reach =
    let here = since-past tl time tidy reach in
    let over = since-past other there other_tidy there_reach in
    let before : (time -ℤ pos 1 -ℤ tl.time) ≡ (there -ℤ pos 1 -ℤ other.time) = omega (arith, ints) in
    let same = ap (λ z. nearest_of (z *ℤ pos 1_000_000) tl.mpb) far ∙ ap (nearest_of ((there -ℤ other.time) *ℤ pos 1_000_000)) tempo in
    let same_before = ap (λ z. nearest_of (z *ℤ pos 1_000_000) tl.mpb) before ∙ ap (nearest_of ((there -ℤ pos 1 -ℤ other.time) *ℤ pos 1_000_000)) tempo in
    (here.0 ∙ same ∙ sym over.0, here.1 ∙ same_before ∙ sym over.1)

pub clicks_alike : (tl other : Timeline) (time there : ℤ) → IsTidy tl → IsTidy other → tl.mpb ≡ other.mpb → (time -ℤ tl.time) ≡ (there -ℤ other.time) → IsInReach tl time → IsInReach other there → clicks_at tl time ≡ clicks_at other there
unfolding clicks_at
clicks_alike tl other time there tidy other_tidy tempo far reach there_reach =
    let same = alike tl other time there tidy other_tidy tempo far reach there_reach in
    ap (λ z. int_lt (phase_of z (pos 1_000_000)) (phase_of (since tl (time -ℤ pos 1)) (pos 1_000_000))) same.0
    ∙ ap (λ z. int_lt (phase_of (since other there) (pos 1_000_000)) (phase_of z (pos 1_000_000))) same.1

pub accents_alike : (tl other : Timeline) (time there q : ℤ) → IsTidy tl → IsTidy other → tl.mpb ≡ other.mpb → (time -ℤ tl.time) ≡ (there -ℤ other.time) → IsInReach tl time → IsInReach other there → is_accented tl q time ≡ is_accented other q there
unfolding is_accented
accents_alike tl other time there q tidy other_tidy tempo far reach there_reach =
    let same = alike tl other time there tidy other_tidy tempo far reach there_reach in
    ap (λ z. int_lt (phase_of z q) (pos 1_000_000)) same.0

pub beats_alike : (tl other : Timeline) (k time there : ℤ) → IsTidy tl → IsTidy other → tl.mpb ≡ other.mpb → (time -ℤ tl.time) ≡ (there -ℤ other.time) → IsInReach tl time → IsInReach other there → PassesBeat tl k time → PassesBeat other k there
beats_alike tl other k time there tidy other_tidy tempo far reach there_reach passes =
    let same = alike tl other time there tidy other_tidy tempo far reach there_reach in
    (omega (arith, ints, same.1, passes.0), omega (arith, ints, same.0, passes.1))

-- ---- when the k-th beat comes

-- a multiple of d is its own nearest quotient
nearest_whole : (q d : ℤ) → pos 1 ≤ℤ d → nearest_of (q *ℤ d) d ≡ q
nearest_whole q (pos m) h =
    let r = nearest_of (q *ℤ pos m) (pos m) in
    let near = (nearest_of-IsNearest (q *ℤ pos m) (pos m) h).near in
    by_lt_z q r
    (λ lt. let apart = scaled_le q r 1 m (omega (arith, ints)) in absurd (omega (arith, ints)))
    (λ ge.
    by_lt_z r q
    (λ lt. let apart = scaled_le r q 1 m (omega (arith, ints)) in absurd (omega (arith, ints)))
    (λ le. omega (arith, ints)))
nearest_whole q (negsuc m) h = absurd (omega (arith, ints))

-- two million less than a multiple of d has a lesser one
nearest_short : (q d : ℤ) → pos 1 ≤ℤ d → d ≤ℤ pos 3_000_000 → nearest_of (q *ℤ d -ℤ pos 2_000_000) d <ℤ q
nearest_short q (pos m) h slow =
    let n = q *ℤ pos m -ℤ pos 2_000_000 in
    let r = nearest_of n (pos m) in
    let near = (nearest_of-IsNearest n (pos m) h).near in
    by_lt_z r q
    (λ lt. lt)
    (λ ge. let apart = scaled_le q r 0 m (omega (arith, ints)) in absurd (omega (arith, ints)))
nearest_short q (negsuc m) h slow = absurd (omega (arith, ints))

-- the time of k beats past the origin
abbrev pub beat_time_of : Timeline → ℤ → ℤ
beat_time_of tl k = tl.time +ℤ k *ℤ tl.mpb

-- a scaled number of beats, times a million
millionfold : (k d : ℤ) → (k *ℤ d) *ℤ pos 1_000_000 ≡ (k *ℤ pos 1_000_000) *ℤ d
millionfold k d =
    let u : up (k *ℤ pos 1_000_000) ≡ up k * 1_000_000 = omega (arith, ints) in
    let v : down (k *ℤ pos 1_000_000) ≡ down k * 1_000_000 = omega (arith, ints) in
    omega (arith, ints, ap (λ z. z * up d) u, ap (λ z. z * down d) u, ap (λ z. z * up d) v, ap (λ z. z * down d) v)

pub reached_at : (tl : Timeline) (k : ℤ) → IsTidy tl → (tl.beat +ℤ k *ℤ pos 1_000_000) ≤ℤ pos (2 ^ 60) → (k *ℤ pos 1_000_000) ≤ℤ since tl (beat_time_of tl k)
unfolding since beat_at
reached_at tl k tidy fits =
    let fastest = tidy.fastest in
    let n = (beat_time_of tl k -ℤ tl.time) *ℤ pos 1_000_000 in
    let e : n ≡ (k *ℤ pos 1_000_000) *ℤ tl.mpb = omega (arith, ints, millionfold k tl.mpb) in
    let whole : nearest_of n tl.mpb ≡ k *ℤ pos 1_000_000 = ap (λ z. nearest_of z tl.mpb) e ∙ nearest_whole (k *ℤ pos 1_000_000) tl.mpb (omega (arith, ints)) in
    omega (arith, ints, clamps, whole)

pub unreached_at : (tl : Timeline) (k : ℤ) → IsTidy tl → neg_ℤ (pos (2 ^ 60)) <ℤ (tl.beat +ℤ k *ℤ pos 1_000_000) → since tl (beat_time_of tl k -ℤ pos 2) <ℤ (k *ℤ pos 1_000_000)
unfolding since beat_at
unreached_at tl k tidy fits =
    let fastest = tidy.fastest in
    let n = (beat_time_of tl k -ℤ pos 2 -ℤ tl.time) *ℤ pos 1_000_000 in
    let e : n ≡ (k *ℤ pos 1_000_000) *ℤ tl.mpb -ℤ pos 2_000_000 = omega (arith, ints, millionfold k tl.mpb) in
    let same = ap (λ z. nearest_of z tl.mpb) e in
    let short = nearest_short (k *ℤ pos 1_000_000) tl.mpb (omega (arith, ints)) tidy.slowest in
    omega (arith, ints, clamps, same)

-- a beat beyond the limit never comes
pub never : (tl : Timeline) (whole time : ℤ) → IsTidy tl → pos (2 ^ 60) <ℤ (tl.beat +ℤ whole) → since tl time <ℤ whole
unfolding since beat_at
never tl whole time tidy beyond = omega (arith, ints, clamps)

-- a beat that is still to come isn't at the lower limit
pub not_low : (tl : Timeline) (whole time : ℤ) → IsTidy tl → since tl time <ℤ whole → neg_ℤ (pos (2 ^ 60)) <ℤ (tl.beat +ℤ whole)
unfolding since beat_at
not_low tl whole time tidy ahead = omega (arith, ints, clamps)

-- where a beat isn't passed, its time hasn't come
pub not_earlier : (tl : Timeline) (whole at from : ℤ) → IsTidy tl → since tl (from -ℤ pos 1) <ℤ whole → whole ≤ℤ since tl at → from ≤ℤ at
not_earlier tl whole at from tidy ahead there =
    by_lt_z at from
    (λ lt. let rises = since-le tl at (from -ℤ pos 1) tidy (omega (arith, ints)) in absurd (omega (arith, ints)))
    (λ ge. ge)

pub next_beat-within : (tl : Timeline) (beats from : ℤ) → IsTidy tl → IsNextBeat tl beats from → IsWithin 2_305_843_009_214 beats
next_beat-within tl beats from tidy next =
    let low = next.low in
    let high = next.high in
    omega (arith, ints, since-within tl (from -ℤ pos 1) tidy)

-- ---- the same at a time that is known to be that of the k-th beat
pub reached : (tl : Timeline) (k time : ℤ) → IsTidy tl → (tl.beat +ℤ k *ℤ pos 1_000_000) ≤ℤ pos (2 ^ 60) → time ≡ beat_time_of tl k → (k *ℤ pos 1_000_000) ≤ℤ since tl time
reached tl k time tidy fits e = omega (arith, ints, ap (since tl) e, reached_at tl k tidy fits)

pub unreached : (tl : Timeline) (k from time : ℤ) → IsTidy tl → IsNextBeat tl k from → time ≡ beat_time_of tl k → since tl (time -ℤ pos 2) <ℤ (k *ℤ pos 1_000_000)
unreached tl k from time tidy next e =
    let low = not_low tl (k *ℤ pos 1_000_000) (from -ℤ pos 1) tidy next.high in
    omega (arith, ints, ap (λ t. since tl (t -ℤ pos 2)) e, unreached_at tl k tidy low)

pub not_before : (tl : Timeline) (k from time : ℤ) → IsTidy tl → IsNextBeat tl k from → (tl.beat +ℤ k *ℤ pos 1_000_000) ≤ℤ pos (2 ^ 60) → time ≡ beat_time_of tl k → from ≤ℤ time
not_before tl k from time tidy next fits e =
    not_earlier tl (k *ℤ pos 1_000_000) time from tidy next.high (reached tl k time tidy fits e)
