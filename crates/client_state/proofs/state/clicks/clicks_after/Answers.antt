use Rattle.std.proofs.Common.{sym, ◌∙◌, arith}
use Rattle.std.proofs.lemmas.Int.{ints, to_z-of_z}
use mir.Syntax.{w64}
use Rattle.client_state.proofs.BlockLemmas.{part_kept}
use Rattle.client_state.proofs.state.clicks.clicks_after.Goals as goal

pub returns-clause-clicks : goal.returns-clause-clicks
returns-clause-clicks c =
    let start = simp (to_z-of_z w64 _ c.ranges.start) at c.part_from.ensures.start in
    let found = simp (to_z-of_z w64 _ c.ranges.quantum) at c.clicks.ensures.clicks in
    found
    ∙ sym
    (part_kept c.args.tl.now c.args.quantum c.args.start c.args.block.start c.args.block.length c.part_from.result.start c.part_from.result.length c.requires.positive start (omega (arith, ints, c.part_from.ensures.end)))
