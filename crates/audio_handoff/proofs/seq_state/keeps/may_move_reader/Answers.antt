use Rattle.audio_handoff.proofs.SeqSteps.{moves_a_reader}
use Rattle.audio_handoff.proofs.seq_state.keeps.may_move_reader.Goals as goal

pub returns : goal.returns
returns g c = moves_a_reader g.row.W _ _ c.requires
