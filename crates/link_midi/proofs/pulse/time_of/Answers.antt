use Rattle.std.proofs.Common.{ℤ, pos, ◌+ℤ◌, ◌-ℤ◌, ◌*ℤ◌, ◌≤ℤ◌, FitsSigned, rules, subst, arith}
use Rattle.std.proofs.lemmas.Int.{ints, to_z-of_z}
use mir.Syntax.{w64}
use Rattle.link_midi.proofs.pulse.time_of.Goals as goal

pub half_million-requires : goal.half_million-requires
half_million-requires c = omega (arith, ints)

pub overflow_add-result : goal.overflow_add-result
overflow_add-result c = omega (arith, ints)

pub overflow_add-result-2 : goal.overflow_add-result-2
overflow_add-result-2 c = omega (arith, ints)

early_by : (t h k m : ℤ) → (h *ℤ pos 2_000_000) ≤ℤ (pos 2 *ℤ k -ℤ m) → ((t +ℤ h +ℤ pos 1 -ℤ t -ℤ pos 1) *ℤ pos 2_000_000) ≤ℤ (pos 2 *ℤ k -ℤ m)
early_by t h k m low = omega (arith, ints)

pub returns-clause-early : goal.returns-clause-early
returns-clause-early c =
    let time : FitsSigned w64 c.args.tl.now.time = search rules in
    let half : FitsSigned w64 c.half_million.result = search rules in
    let sum : FitsSigned w64 (c.args.tl.now.time +ℤ c.half_million.result) = omega (arith, ints) in
    let more : FitsSigned w64 (c.args.tl.now.time +ℤ c.half_million.result +ℤ pos 1) = omega (arith, ints) in
    let value = simp (to_z-of_z w64 _ c.ranges.whole) at c.lasting.ensures.value in
    let low : (c.half_million.result *ℤ pos 2_000_000) ≤ℤ (pos 2 *ℤ c.lasting.result -ℤ c.args.tl.now.mpb) = omega (arith, ints, c.half_million.ensures.low) in
    let fact = early_by c.args.tl.now.time c.half_million.result c.lasting.result c.args.tl.now.mpb low in
    simp (to_z-of_z w64 _ time, to_z-of_z w64 _ half, to_z-of_z w64 _ sum, to_z-of_z w64 _ more)
    (subst (λ (k : ℤ). ((c.args.tl.now.time +ℤ c.half_million.result +ℤ pos 1 -ℤ c.args.tl.now.time -ℤ pos 1) *ℤ pos 2_000_000) ≤ℤ (pos 2 *ℤ k -ℤ c.args.tl.now.mpb)) value fact)

pub returns-clause-late : goal.returns-clause-late
returns-clause-late c =
    let value = simp (to_z-of_z w64 _ c.ranges.whole) at c.lasting.ensures.value in
    omega (arith, ints)
