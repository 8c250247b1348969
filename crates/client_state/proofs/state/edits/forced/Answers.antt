use Rattle.std.proofs.Common.{◌+ℤ◌, FitsSigned, rules, ap, ◌∙◌, arith}
use Rattle.std.proofs.lemmas.Int.{ints, to_z-of_z}
use mir.Syntax.{w64, w128}
use Rattle.lk_base.specs.Rounding.{clipped_of}
use Rattle.client_state.proofs.EditLemmas.{forced_of-from}
use Rattle.client_state.proofs.state.edits.forced.Goals as goal

pub advanced-requires-clause-there : goal.advanced-requires-clause-there
advanced-requires-clause-there c =
    let near = c.closest_match-there.ensures.near in
    let within = c.encoded_beat-here.ensures.within in
    omega (arith, ints)

pub returns-clause-value : goal.returns-clause-value
returns-clause-value c =
    let slowest = c.requires.tidy.slowest in
    let fastest = c.requires.tidy.fastest in
    let fits_mpb : FitsSigned w64 c.args.tl.now.mpb = omega (arith, ints) in
    let fits_beat : FitsSigned w64 c.args.tl.now.beat = omega (arith, ints, c.requires.tidy.beat) in
    let fits_here : FitsSigned w64 c.encoded_beat-here.result = search rules in
    let fits_there : FitsSigned w64 c.closest_match-there.result = search rules in
    let fits_apart : FitsSigned w128 c.apart.result = search rules in
    let fits_moved : FitsSigned w64 c.moved.result = search rules in
    let fits_advanced : FitsSigned w64 c.advanced.result = search rules in
    let here = simp (to_z-of_z w64 _ c.ranges.at, to_z-of_z w64 _ c.ranges.quantum) at c.encoded_beat-here.ensures.value in
    let there = simp (to_z-of_z w64 _ c.ranges.beat, to_z-of_z w64 _ c.ranges.quantum, to_z-of_z w64 _ fits_here) at c.closest_match-there.ensures.value in
    let apart = simp (to_z-of_z w64 _ c.ranges.beat, to_z-of_z w64 _ fits_there) at c.apart.ensures.value in
    let moved = simp (to_z-of_z w64 _ fits_beat, to_z-of_z w128 _ fits_apart) at c.moved.ensures.value in
    let time = simp (to_z-of_z w64 _ fits_here, to_z-of_z w64 _ fits_there) at c.advanced.ensures.value in
    simp (to_z-of_z w64 _ fits_mpb, to_z-of_z w64 _ fits_moved, to_z-of_z w64 _ fits_advanced)
    (forced_of-from c.args.tl.now c.args.beat c.args.at c.args.quantum c.encoded_beat-here.result c.closest_match-there.result c.moved.result c.advanced.result here there (moved ∙ ap (λ n. clipped_of (c.args.tl.now.beat +ℤ n)) apart) time)
