use Rattle.std.proofs.Common.{◌+ℤ◌, FitsSigned, rules, ◌∙◌, arith}
use Rattle.std.proofs.lemmas.Int.{ints, to_z-of_z}
use mir.Syntax.{w64}
use Rattle.link_midi.proofs.ProgressLemmas.{block_events}
use Rattle.link_midi.proofs.clock.MidiClock.block_into.Goals as goal

pub loop-block-init : goal.loop-block-init
loop-block-init c =
    let block = c.args.block in
    let start : FitsSigned w64 block.start = search rules in
    let len : FitsSigned w64 block.length = search rules in
    let end : FitsSigned w64 (block.start +ℤ block.length) = omega (arith, ints) in
    let sent = simp (to_z-of_z w64 _ start, to_z-of_z w64 _ len, to_z-of_z w64 _ end) at c.opened-place.ensures in
    simp (to_z-of_z w64 _ start, to_z-of_z w64 _ len, to_z-of_z w64 _ end) sent

pub returns-clause-events : goal.returns-clause-events
returns-clause-events c =
    let block = c.args.block in
    let start : FitsSigned w64 block.start = search rules in
    let len : FitsSigned w64 block.length = search rules in
    let end : FitsSigned w64 (block.start +ℤ block.length) = omega (arith, ints) in
    let all = simp (to_z-of_z w64 _ start, to_z-of_z w64 _ len, to_z-of_z w64 _ end) at c.loop-block-test.ensures.all in
    let whole = all ∙ (block_events c.args.state.now c.self.inside.running block.start block.length (block.start +ℤ block.length) (omega (arith, ints))).0 in
    cc

pub returns-clause-runs : goal.returns-clause-runs
returns-clause-runs c =
    let block = c.args.block in
    let start : FitsSigned w64 block.start = search rules in
    let len : FitsSigned w64 block.length = search rules in
    let end : FitsSigned w64 (block.start +ℤ block.length) = omega (arith, ints) in
    let all = simp (to_z-of_z w64 _ start, to_z-of_z w64 _ len, to_z-of_z w64 _ end) at c.loop-block-test.ensures.runs in
    let whole = all ∙ (block_events c.args.state.now c.self.inside.running block.start block.length (block.start +ℤ block.length) (omega (arith, ints))).1 in
    cc
