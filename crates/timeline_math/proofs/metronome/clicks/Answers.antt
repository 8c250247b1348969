use Rattle.std.proofs.Common.{◌+ℤ◌, FitsSigned, rules, ◌∙◌, arith}
use Rattle.std.proofs.lemmas.Int.{ints, to_z-of_z}
use mir.Syntax.{w64}
use Rattle.timeline_math.proofs.MetronomeLemmas.{block_clicks, has_none}
use Rattle.timeline_math.proofs.metronome.clicks.Goals as goal

pub loop-block-init : goal.loop-block-init
loop-block-init c =
    let block = c.args.block in
    let start : FitsSigned w64 block.start = search rules in
    let len : FitsSigned w64 block.length = search rules in
    let end : FitsSigned w64 (block.start +ℤ block.length) = omega (arith, ints) in
    let place = c.first_place-place in
    let next = simp (to_z-of_z w64 _ start) at place.ensures.next in
    let from = simp (to_z-of_z w64 _ start) at place.ensures.from in
    let none = has_none c.args.tl.now c.args.quantum block.start (block.start +ℤ block.length) place.result.beats place.result.from from (omega (arith, ints)) next in
    simp (to_z-of_z w64 _ c.ranges.quantum, to_z-of_z w64 _ start, to_z-of_z w64 _ len, to_z-of_z w64 _ end)
    (rw c.new-clicks.ensures none)

pub returns-clause-clicks : goal.returns-clause-clicks
returns-clause-clicks c =
    let block = c.args.block in
    let start : FitsSigned w64 block.start = search rules in
    let len : FitsSigned w64 block.length = search rules in
    let end : FitsSigned w64 (block.start +ℤ block.length) = omega (arith, ints) in
    let all = simp (to_z-of_z w64 _ c.ranges.quantum, to_z-of_z w64 _ start, to_z-of_z w64 _ len, to_z-of_z w64 _ end) at c.loop-block-test.ensures.all in
    all ∙ block_clicks c.args.tl.now c.args.quantum block.start block.length (block.start +ℤ block.length) (omega (arith, ints))
