-- What the edits of a state give.
use Rattle.std.specs.Prelude.{ℕ, ℤ, pos, ◌^◌, ◌+ℤ◌, ◌-ℤ◌, Bool, nat_lt, if◌then◌else◌}
use Rattle.std.specs.Int.{int_max, int_min}
use Rattle.lk_base.specs.Rounding.{clipped_of}
use Rattle.lk_base.specs.declared.start.ClientStart.{ClientStart}
use Rattle.lk_base.specs.declared.timeline.Timeline.{Timeline}
use Rattle.timeline_math.specs.Beats.{beat_at, time_at}
use Rattle.timeline_math.specs.Encoding.{encoded_beat, encoded_time}
use Rattle.timeline_math.specs.Quantum.{next_match_of, closest_match_of}
use Rattle.timeline_math.specs.Tidying.{clamped_of}

abbrev pub timeline_at : ℤ → ℤ → ℤ → Timeline
timeline_at mpb beat time = record { mpb = mpb; beat = beat; time = time }

-- Rule: Setting a tempo (`set_tempo`) clamps it, keeps the beat origin, and keeps the beat at the time given but for at most 8 microbeats,
-- where the new time origin isn't clipped.
unfoldable pub tempo_set_of : Timeline → ℤ → ℤ → Timeline
tempo_set_of tl mpb at =
    let there = timeline_at (clamped_of mpb) (beat_at tl at) at in
    timeline_at (clamped_of mpb) tl.beat (time_at there tl.beat)

-- the match, closest to the encoded beat at the time, of the beat that is forced
unfoldable pub match_of : Timeline → ℤ → ℤ → ℤ → ℤ
match_of tl beat at q = closest_match_of (encoded_beat tl at q) beat q

-- how far that match is from the encoded beat
unfoldable pub shift_of : Timeline → ℤ → ℤ → ℤ → ℤ
shift_of tl beat at q = match_of tl beat at q -ℤ encoded_beat tl at q

-- how much earlier the time origin becomes
unfoldable pub advance_of : Timeline → ℤ → ℤ
advance_of tl shift = time_at tl (clipped_of shift) -ℤ time_at tl (pos 0)

-- Rule: `force_beat` (in scripts `force`) makes the time origin earlier by the time from the encoded beat at the time given to its closest
-- match, and the beat origin greater by what that match lacks of the forced beat, both clipped.
-- the time origin moves by the shift, and then the beat origin so that the match becomes the forced beat
unfoldable pub forced_of : Timeline → ℤ → ℤ → ℤ → Timeline
forced_of tl beat at q =
    timeline_at
    tl.mpb
    (clipped_of (tl.beat +ℤ (beat -ℤ match_of tl beat at q)))
    (clipped_of (tl.time -ℤ advance_of tl (shift_of tl beat at q)))

-- the time of the next match of the beat, from the encoded beat at the time on
unfoldable pub next_time_of : Timeline → ℤ → ℤ → ℤ → ℤ
next_time_of tl beat at q = encoded_time tl (clipped_of (next_match_of (encoded_beat tl at q) beat q)) q

-- Rule: A requested beat (`request_beat`, in scripts `request`) is forced at the time given without peers, and with peers at the time of
-- the next beat that has its phase.
unfoldable pub requested_of : ℕ → Timeline → ℤ → ℤ → ℤ → Timeline
requested_of peers tl beat at q =
    if nat_lt 0 peers then forced_of tl beat (next_time_of tl beat at q) q else forced_of tl beat at q

-- Rule: Setting a quantum takes the nearest number from 0 to 2^40 and leaves the rest of the state.
abbrev pub quantum_set_of : ℤ → ℤ
quantum_set_of quantum = int_max (pos 0) (int_min quantum (pos (2 ^ 40)))

-- Rule: Playing or stopping sets whether the state plays and since when.
abbrev pub played_of : ClientStart → Bool → ℤ → ClientStart
played_of start playing time = record start { playing = playing; time = time }
