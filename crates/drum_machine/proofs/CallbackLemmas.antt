-- The times of a callback's frames lie within the limit.
use Rattle.std.proofs.Common.{◌≡◌, ℕ, ◌+◌, ◌<◌, ◌^◌, ℤ, pos, ◌+ℤ◌, ◌-ℤ◌, ◌≤ℤ◌, FitsSigned, sym, subst, arith, to_z, of_z, w64}
use Rattle.std.proofs.lemmas.Int.{ints, to_z-of_z}
use Rattle.lk_base.specs.Ranges.{IsMoment, IsWithinLimit}
use Rattle.link_live.proofs.AskLemmas.{moment_fits}
use Rattle.step_sequencer.specs.Frames.{frame_time}

frame_range : (origin : ℤ) (frame : ℕ) → IsMoment origin → frame + 960 < 2 ^ 31
    → (pos 0 ≤ℤ frame_time origin frame) × (frame_time origin frame ≤ℤ pos (2 ^ 56))
unfolding frame_time
frame_range origin frame moment few = (omega (arith, ints, moment.0, moment.1, few), omega (arith, ints, moment.0, moment.1, few))

range_fits : (time : ℤ) → (pos 0 ≤ℤ time) × (time ≤ℤ pos (2 ^ 56)) → FitsSigned w64 time
range_fits time range = grind (arith, ints)

stored_moment : (origin : ℤ) → IsMoment origin → IsMoment (to_z w64 (of_z w64 origin))
stored_moment origin moment = subst IsMoment (sym (to_z-of_z w64 origin (moment_fits origin moment))) moment

before_range : (time : ℤ) → (pos 0 ≤ℤ time) × (time ≤ℤ pos (2 ^ 56)) → IsWithinLimit (time -ℤ pos 1)
before_range time range = omega (arith, ints, range.0, range.1)

end_range : (time : ℤ) → (pos 0 ≤ℤ time) × (time ≤ℤ pos (2 ^ 56)) → IsWithinLimit (time +ℤ pos 20_000)
end_range time range = omega (arith, ints, range.0, range.1)

pub before_within : (origin time : ℤ) (frame : ℕ) → time ≡ frame_time (to_z w64 (of_z w64 origin)) frame → IsMoment origin → frame + 960 < 2 ^ 31
    → IsWithinLimit (to_z w64 (of_z w64 time) -ℤ pos 1)
before_within origin time frame is moment few =
    let range = subst (λ (t : ℤ). (pos 0 ≤ℤ t) × (t ≤ℤ pos (2 ^ 56))) (sym is) (frame_range _ frame (stored_moment origin moment) few) in
    subst (λ (t : ℤ). IsWithinLimit (t -ℤ pos 1)) (sym (to_z-of_z w64 time (range_fits time range))) (before_range time range)

pub end_within : (origin time : ℤ) (frame : ℕ) → time ≡ frame_time (to_z w64 (of_z w64 origin)) frame → IsMoment origin → frame + 960 < 2 ^ 31
    → IsWithinLimit (to_z w64 (of_z w64 time) +ℤ pos 20_000)
end_within origin time frame is moment few =
    let range = subst (λ (t : ℤ). (pos 0 ≤ℤ t) × (t ≤ℤ pos (2 ^ 56))) (sym is) (frame_range _ frame (stored_moment origin moment) few) in
    subst (λ (t : ℤ). IsWithinLimit (t +ℤ pos 20_000)) (sym (to_z-of_z w64 time (range_fits time range))) (end_range time range)
