use Rattle.std.proofs.Common.{◌≡◌, ℤ, pos, ◌-ℤ◌, ◌<ℤ◌, FitsSigned, subst, arith}
use Rattle.std.proofs.lemmas.Int.{ints, to_z-of_z}
use mir.Syntax.{w64}
use Rattle.timeline_math.specs.Clicks.{since}
use Rattle.link_midi.proofs.pulse.first_at.Goals as goal

pub since_at-requires : goal.since_at-requires
since_at-requires c = record { tidy = c.requires.tidy; time = omega (arith, ints) }

pub returns-then-since_at-whole-clause-before : goal.returns-then-since_at-whole-clause-before
returns-then-since_at-whole-clause-before c =
    let tl = c.args.tl.now in
    let less : FitsSigned w64 (c.args.time -ℤ pos 1) = omega (arith, ints) in
    let back : c.args.time -ℤ pos 2 ≡ c.args.time -ℤ pos 1 -ℤ pos 1 = omega (arith, ints) in
    simp (to_z-of_z w64 _ c.ranges.time, to_z-of_z w64 _ less)
    (subst (λ (t : ℤ). since tl t <ℤ c.args.whole) back c.requires.unreached)

pub returns-then-since_at-whole-clause-there : goal.returns-then-since_at-whole-clause-there
returns-then-since_at-whole-clause-there c =
    let less : FitsSigned w64 (c.args.time -ℤ pos 1) = omega (arith, ints) in
    let value = simp (to_z-of_z w64 _ c.ranges.time, to_z-of_z w64 _ less) at c.since_at.ensures.value in
    simp (to_z-of_z w64 _ c.ranges.time, to_z-of_z w64 _ less) (omega (arith, ints))

pub returns-else-since_at-whole-clause-before : goal.returns-else-since_at-whole-clause-before
returns-else-since_at-whole-clause-before c =
    let less : FitsSigned w64 (c.args.time -ℤ pos 1) = omega (arith, ints) in
    let value = simp (to_z-of_z w64 _ c.ranges.time, to_z-of_z w64 _ less) at c.since_at.ensures.value in
    simp (to_z-of_z w64 _ c.ranges.time) (omega (arith, ints))

pub returns-else-since_at-whole-clause-there : goal.returns-else-since_at-whole-clause-there
returns-else-since_at-whole-clause-there c = simp (to_z-of_z w64 _ c.ranges.time) c.requires.reached
