use Rattle.std.proofs.Common.{◌≤◌, ◌+◌, ◌^◌, ◌*ℤ◌, unsigned_abs, FitsSigned, mul-le-mul, rules, arith}
use Rattle.std.proofs.lemmas.Int.{ints, to_z-of_z, fits_signed_mul, unsigned_abs-mul}
use mir.Syntax.{w64, w128}
use Rattle.link_midi.proofs.pulse.lasting.Goals as goal

pub returns-clause-value : goal.returns-clause-value
returns-clause-value c =
    let mpb = c.args.tl.now.mpb in
    let slow : unsigned_abs mpb ≤ 3_000_000 = omega (arith, ints) in
    let short : FitsSigned w64 mpb = search rules in
    let whole_fits : FitsSigned w128 c.args.whole = omega (arith, ints) in
    let mpb_fits : FitsSigned w128 mpb = omega (arith, ints) in
    let fits : FitsSigned w128 (c.args.whole *ℤ mpb) = fits_signed_mul w128 c.args.whole mpb (2 ^ 61 + 2 ^ 20) 3_000_000 c.requires.whole slow (omega arith) in
    simp (to_z-of_z w64 _ c.ranges.whole, to_z-of_z w64 _ short, to_z-of_z w128 _ whole_fits, to_z-of_z w128 _ mpb_fits, to_z-of_z w128 _ fits)

pub returns-clause-within : goal.returns-clause-within
returns-clause-within c =
    let mpb = c.args.tl.now.mpb in
    let slow : unsigned_abs mpb ≤ 3_000_000 = omega (arith, ints) in
    let short : FitsSigned w64 mpb = search rules in
    let whole_fits : FitsSigned w128 c.args.whole = omega (arith, ints) in
    let mpb_fits : FitsSigned w128 mpb = omega (arith, ints) in
    let fits : FitsSigned w128 (c.args.whole *ℤ mpb) = fits_signed_mul w128 c.args.whole mpb (2 ^ 61 + 2 ^ 20) 3_000_000 c.requires.whole slow (omega arith) in
    let most = mul-le-mul c.requires.whole slow in
    simp (to_z-of_z w64 _ c.ranges.whole, to_z-of_z w64 _ short, to_z-of_z w128 _ whole_fits, to_z-of_z w128 _ mpb_fits, to_z-of_z w128 _ fits)
    (omega (arith, unsigned_abs-mul c.args.whole mpb))
