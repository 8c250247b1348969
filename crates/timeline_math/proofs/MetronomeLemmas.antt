-- The clicks of a span of time: none before the next whole beat, and one there.
use Rattle.std.proofs.Common.{◌≡◌, ℕ, zero, suc, ◌+◌, ◌<◌, ◌≤◌, ℤ, pos, negsuc, ◌+ℤ◌, ◌-ℤ◌, ◌*ℤ◌, ◌<ℤ◌, ◌≤ℤ◌, unsigned_abs, Bool, true, false, int_lt, cond, List, [], ◌∷◌, ◌++◌, length, refl, ap, sym, ◌∙◌, arith, inl, inr, append_assoc, append-nil, length-append}
use Rattle.std.proofs.lemmas.Int.{ints}
use Rattle.std.proofs.lemmas.Bool.{cases_lt}
use Rattle.lk_base.proofs.RoundingLemmas.{scaled_sum}
use Rattle.lk_base.specs.Timeline.{IsTidy}
use Rattle.lk_base.specs.declared.timeline.Timeline.{Timeline}
use Rattle.lk_base.specs.declared.block.Click.{Click}
use Rattle.timeline_math.specs.Clicks.{since, clicks_at, click_at, clicks_from, is_accented}
use Rattle.timeline_math.specs.Metronome.{clicks_between, IsNextBeat, IsBeatTime, HasClicks}
use Rattle.timeline_math.specs.Quantum.{phase_of}
use Rattle.timeline_math.proofs.ClickLemmas.{since-le, since-step, beat_time_of, passing_clicks, unreached_at, never, not_low, not_earlier}
use Rattle.timeline_math.proofs.QuantumLemmas.{phase_of-divides, phase_of-low, phase_of-below}

-- between the same two multiples the phase doesn't fall
phase_rises : (x y k : ℤ) → ((k -ℤ pos 1) *ℤ pos 1_000_000) ≤ℤ x → x ≤ℤ y → y <ℤ (k *ℤ pos 1_000_000) → phase_of x (pos 1_000_000) ≤ℤ phase_of y (pos 1_000_000)
phase_rises x y k low le high =
    let million : 0 < 1_000_000 = omega arith in
    let byx = phase_of-divides x 1_000_000 million in
    let byy = phase_of-divides y 1_000_000 million in
    let lowx = phase_of-low x (pos 1_000_000) in
    let lowy = phase_of-low y (pos 1_000_000) in
    let highx = phase_of-below x (pos 1_000_000) (omega (arith, ints)) in
    let highy = phase_of-below y (pos 1_000_000) (omega (arith, ints)) in
    omega (arith, ints, byx.1, byy.1)

quiet_at : (tl : Timeline) (time k : ℤ) → IsTidy tl → ((k -ℤ pos 1) *ℤ pos 1_000_000) ≤ℤ since tl (time -ℤ pos 1) → since tl time <ℤ (k *ℤ pos 1_000_000) → clicks_at tl time ≡ false
unfolding clicks_at
quiet_at tl time k tidy low high =
    let rises = phase_rises (since tl (time -ℤ pos 1)) (since tl time) k low (since-le tl (time -ℤ pos 1) time tidy (omega (arith, ints))) high in
    let e : false ≡ int_lt (phase_of (since tl time) (pos 1_000_000)) (phase_of (since tl (time -ℤ pos 1)) (pos 1_000_000)) = omega (arith, ints) in
    sym e

-- one microsecond
from_quiet : (tl : Timeline) (q time : ℤ) (n : ℕ) → clicks_at tl time ≡ false → clicks_from tl q time (suc n) ≡ clicks_from tl q (time +ℤ pos 1) n
unfolding clicks_from
from_quiet tl q time n e =
    ap (λ b. cond b (click_at tl q time ∷ clicks_from tl q (time +ℤ pos 1) n) (clicks_from tl q (time +ℤ pos 1) n)) e

from_click : (tl : Timeline) (q time : ℤ) (n : ℕ) → clicks_at tl time ≡ true → clicks_from tl q time (suc n) ≡ click_at tl q time ∷ clicks_from tl q (time +ℤ pos 1) n
unfolding clicks_from
from_click tl q time n e =
    ap (λ b. cond b (click_at tl q time ∷ clicks_from tl q (time +ℤ pos 1) n) (clicks_from tl q (time +ℤ pos 1) n)) e

-- n microseconds with no click
skip : (tl : Timeline) (q k from : ℤ) (n r m : ℕ) → IsTidy tl → m ≡ n + r → ((k -ℤ pos 1) *ℤ pos 1_000_000) ≤ℤ since tl (from -ℤ pos 1) → since tl (from +ℤ pos n -ℤ pos 1) <ℤ (k *ℤ pos 1_000_000) → clicks_from tl q from m ≡ clicks_from tl q (from +ℤ pos n) r
skip tl q k from zero r m tidy e low high =
    let here : from ≡ from +ℤ pos 0 = omega (arith, ints) in
    let same : m ≡ r = omega arith in
    ap (λ t. clicks_from tl q t m) here ∙ ap (clicks_from tl q (from +ℤ pos 0)) same
skip tl q k from (suc n) r m tidy e low high =
    let more : m ≡ suc (n + r) = omega arith in
    let back : from +ℤ pos 1 -ℤ pos 1 ≡ from = omega (arith, ints) in
    let along : from +ℤ pos 1 +ℤ pos n ≡ from +ℤ pos (suc n) = omega (arith, ints) in
    let along_back : from +ℤ pos 1 +ℤ pos n -ℤ pos 1 ≡ from +ℤ pos (suc n) -ℤ pos 1 = omega (arith, ints) in
    let rises = since-le tl (from -ℤ pos 1) from tidy (omega (arith, ints)) in
    let last = since-le tl from (from +ℤ pos (suc n) -ℤ pos 1) tidy (omega (arith, ints)) in
    let quiet = quiet_at tl from k tidy low (omega (arith, ints)) in
    let low_on : ((k -ℤ pos 1) *ℤ pos 1_000_000) ≤ℤ since tl (from +ℤ pos 1 -ℤ pos 1) =
    omega (arith, ints, ap (since tl) back) in
    let high_on : since tl (from +ℤ pos 1 +ℤ pos n -ℤ pos 1) <ℤ (k *ℤ pos 1_000_000) =
    omega (arith, ints, ap (since tl) along_back) in
    ap (clicks_from tl q from) more
    ∙ from_quiet tl q from (n + r) quiet
    ∙ skip tl q k (from +ℤ pos 1) n r (n + r) tidy refl low_on high_on
    ∙ ap (λ t. clicks_from tl q t r) along

pub between_none : (tl : Timeline) (q end : ℤ) → clicks_between tl q end end ≡ []
unfolding clicks_between clicks_from
between_none tl q end =
    let none : unsigned_abs (end -ℤ end) ≡ 0 = omega (arith, ints) in
    ap (clicks_from tl q end) none

-- no click before the next whole beat
pub quiet_between : (tl : Timeline) (q k from to end : ℤ) → IsTidy tl → IsNextBeat tl k from → from ≤ℤ to → to ≤ℤ end → since tl (to -ℤ pos 1) <ℤ (k *ℤ pos 1_000_000) → clicks_between tl q from end ≡ clicks_between tl q to end
unfolding clicks_between
quiet_between tl q k from to end tidy next le last ahead =
    let n = unsigned_abs (to -ℤ from) in
    let to_is : from +ℤ pos n ≡ to = omega (arith, ints) in
    let back : from +ℤ pos n -ℤ pos 1 ≡ to -ℤ pos 1 = omega (arith, ints) in
    let whole : unsigned_abs (end -ℤ from) ≡ n + unsigned_abs (end -ℤ to) = omega (arith, ints) in
    skip tl q k from n (unsigned_abs (end -ℤ to)) (unsigned_abs (end -ℤ from)) tidy whole next.low (omega (arith, ints, ap (since tl) back))
    ∙ ap (λ t. clicks_from tl q t (unsigned_abs (end -ℤ to))) to_is

-- a click where it is passed
pub sounds_between : (tl : Timeline) (q at end : ℤ) → at <ℤ end → clicks_at tl at ≡ true → clicks_between tl q at end ≡ click_at tl q at ∷ clicks_between tl q (at +ℤ pos 1) end
unfolding clicks_between
sounds_between tl q at end lt clicks =
    let whole : unsigned_abs (end -ℤ at) ≡ suc (unsigned_abs (end -ℤ (at +ℤ pos 1))) = omega (arith, ints) in
    ap (clicks_from tl q at) whole ∙ from_click tl q at (unsigned_abs (end -ℤ (at +ℤ pos 1))) clicks

-- ---- the next click

pub next_after : (tl : Timeline) (k at : ℤ) → IsTidy tl → since tl (at -ℤ pos 1) <ℤ (k *ℤ pos 1_000_000) → (k *ℤ pos 1_000_000) ≤ℤ since tl at → IsNextBeat tl (k +ℤ pos 1) (at +ℤ pos 1)
next_after tl k at tidy before there =
    let back : at +ℤ pos 1 -ℤ pos 1 ≡ at = omega (arith, ints) in
    let same = ap (since tl) back in
    let step = since-step tl at tidy in
    record { low = omega (arith, ints); high = omega (arith, ints) }

pub beat_time_is : (tl : Timeline) (k from end at : ℤ) → IsTidy tl → IsNextBeat tl k from → at <ℤ end → beat_time_of tl k ≤ℤ (at +ℤ pos 1) → at ≤ℤ beat_time_of tl k → since tl (at -ℤ pos 1) <ℤ (k *ℤ pos 1_000_000) → (k *ℤ pos 1_000_000) ≤ℤ since tl at → IsBeatTime tl k from end at
beat_time_is tl k from end at tidy next lt early late before there =
    let from_at = not_earlier tl (k *ℤ pos 1_000_000) at from tidy next.high there in
    let clicks = passing_clicks tl at tidy (k, (before, there)) in
    record {
      not_before = from_at;
      inside = lt;
      next = next_after tl k at tidy before there;
      early = early;
      late = late;
      clicks = λ q.
          quiet_between tl q k from at end tidy next from_at (omega (arith, ints)) before
          ∙ sounds_between tl q at end lt clicks;
    }

-- there is none where the beat is still ahead a microsecond before the end
pub none_left : (tl : Timeline) (k from end : ℤ) → IsTidy tl → IsNextBeat tl k from → from ≤ℤ end → since tl (end -ℤ pos 1) <ℤ (k *ℤ pos 1_000_000) → (q : ℤ) → clicks_between tl q from end ≡ []
none_left tl k from end tidy next le ahead q =
    quiet_between tl q k from end end tidy next le (omega (arith, ints)) ahead ∙ between_none tl q end

pub none_before : (tl : Timeline) (k from end : ℤ) → IsTidy tl → IsNextBeat tl k from → from ≤ℤ end → end <ℤ beat_time_of tl k → (q : ℤ) → clicks_between tl q from end ≡ []
none_before tl k from end tidy next le lt q =
    let low = not_low tl (k *ℤ pos 1_000_000) (from -ℤ pos 1) tidy next.high in
    let short = unreached_at tl k tidy low in
    let rises = since-le tl (end -ℤ pos 1) (beat_time_of tl k -ℤ pos 2) tidy (omega (arith, ints)) in
    none_left tl k from end tidy next le (omega (arith, ints)) q

pub none_at : (tl : Timeline) (k from end at : ℤ) → IsTidy tl → IsNextBeat tl k from → from ≤ℤ end → end ≤ℤ at → since tl (at -ℤ pos 1) <ℤ (k *ℤ pos 1_000_000) → (q : ℤ) → clicks_between tl q from end ≡ []
none_at tl k from end at tidy next le past before q =
    let rises = since-le tl (end -ℤ pos 1) (at -ℤ pos 1) tidy (omega (arith, ints)) in
    none_left tl k from end tidy next le (omega (arith, ints)) q

pub none_ever : (tl : Timeline) (k from end : ℤ) → IsTidy tl → IsNextBeat tl k from → from ≤ℤ end → pos (1152921504606846976) <ℤ (tl.beat +ℤ k *ℤ pos 1_000_000) → (q : ℤ) → clicks_between tl q from end ≡ []
none_ever tl k from end tidy next le beyond q =
    none_left tl k from end tidy next le (never tl (k *ℤ pos 1_000_000) (end -ℤ pos 1) tidy beyond) q

-- ---- the clicks so far

one_more : (k d : ℤ) → pos 0 ≤ℤ d → ((k -ℤ pos 1) *ℤ d +ℤ d) ≡ k *ℤ d
one_more k (pos m) h =
    let sum = scaled_sum (k -ℤ pos 1) (pos 1) m in
    let same : k -ℤ pos 1 +ℤ pos 1 ≡ k = omega (arith, ints) in
    omega (arith, ints, ap (λ z. z *ℤ pos m) same)
one_more k (negsuc m) h = absurd (omega (arith, ints))

pub has_none : (tl : Timeline) (q start end beats from : ℤ) → from ≡ start → start ≤ℤ end → IsNextBeat tl beats start → HasClicks tl q start end beats from []
has_none tl q start end beats from e le next =
    rw e
    (record {
      next = next;
      later = omega (arith, ints);
      order = le;
      apart = λ lt. absurd (omega arith);
      last = λ lt. absurd (omega arith);
      list = refl;
    })

pub has_room : (tl : Timeline) (q start end beats from : ℤ) (clicks : List Click) → end ≤ℤ (start +ℤ pos 1_000_000) → HasClicks tl q start end beats from clicks → length clicks ≤ 17
has_room tl q start end beats from clicks short so_far =
    let order = so_far.order in
    elim (cases_lt 0 (length clicks)) [
      | inl lt ↦
          let apart = so_far.apart lt in
          let last = so_far.last lt in
          omega (arith, ints)
      | inr le ↦ omega arith
    ]

pub has_more : (tl : Timeline) (q start end beats from at : ℤ) (clicks : List Click) → IsTidy tl → HasClicks tl q start end beats from clicks → IsBeatTime tl beats from end at → HasClicks tl q start end (beats +ℤ pos 1) (at +ℤ pos 1) (clicks ++ click_at tl q at ∷ [])
has_more tl q start end beats from at clicks tidy so_far found =
    let later = so_far.later in
    let not_before = found.not_before in
    let inside = found.inside in
    let early = found.early in
    let late = found.late in
    let fastest = tidy.fastest in
    let count : length (clicks ++ click_at tl q at ∷ []) ≡ length clicks + 1 = simp length-append in
    let back : beats +ℤ pos 1 -ℤ pos 1 ≡ beats = omega (arith, ints) in
    let same = ap (λ k. k *ℤ tl.mpb) back in
    let more = one_more beats tl.mpb (omega (arith, ints)) in
    record {
      next = found.next;
      later = omega (arith, ints);
      order = omega (arith, ints);
      apart = λ _.
          elim (cases_lt 0 (length clicks)) [
            | inl lt ↦ let apart = so_far.apart lt in omega (arith, ints)
            | inr le ↦ omega (arith, ints)
          ];
      last = λ _. omega (arith, ints);
      list =
          so_far.list ∙ ap (λ xs. clicks ++ xs) (found.clicks q)
          ∙ sym (append_assoc clicks (click_at tl q at ∷ []) (clicks_between tl q (at +ℤ pos 1) end));
    }

pub has_all : (tl : Timeline) (q start end beats from : ℤ) (clicks : List Click) → HasClicks tl q start end beats from clicks → clicks_between tl q from end ≡ [] → clicks ≡ clicks_between tl q start end
has_all tl q start end beats from clicks so_far none =
    sym (so_far.list ∙ ap (λ xs. clicks ++ xs) none ∙ append-nil clicks)

pub block_clicks : (tl : Timeline) (q start len end : ℤ) → end ≡ start +ℤ len → clicks_between tl q start end ≡ clicks_from tl q start (unsigned_abs len)
unfolding clicks_between
block_clicks tl q start len end e =
    let same : unsigned_abs (end -ℤ start) ≡ unsigned_abs len = omega (arith, ints) in
    ap (clicks_from tl q start) same

pub pushed_is : (tl : Timeline) (q at : ℤ) (accent : Bool) (items pushed : List Click) → accent ≡ is_accented tl q at → pushed ≡ items ++ record { at = at; accent = accent } ∷ [] → pushed ≡ items ++ click_at tl q at ∷ []
unfolding click_at
pushed_is tl q at accent items pushed accent_is e =
    let with : Bool → List Click = λ b. items ++ record { at = at; accent = b } ∷ [] in
    e ∙ ap with accent_is
