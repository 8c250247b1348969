use Rattle.std.proofs.Common.{arith}
use Rattle.std.proofs.lemmas.Int.{ints, clamps, to_z-of_z}
use mir.Syntax.{w64}
use Rattle.client_state.specs.Timelines.{new_origin_of}
use Rattle.client_state.proofs.timelines.new_origin.Goals as goal

pub returns-clause-value : goal.returns-clause-value
unfolding new_origin_of
returns-clause-value c =
    let beat = simp (to_z-of_z w64 _ c.ranges.at) at c.ghost_beat.ensures.value in
    omega (arith, ints, clamps)
