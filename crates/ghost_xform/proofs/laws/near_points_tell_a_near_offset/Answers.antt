use Rattle.ghost_xform.proofs.OffsetLemmas.{offset_of-near}
use Rattle.ghost_xform.proofs.laws.near_points_tell_a_near_offset.Goals as goal

pub returns : goal.returns
returns c = λ points offset r some within all. offset_of-near offset r points some within all
