use Rattle.audio_handoff.proofs.SeqSteps.{moves_a_note}
use Rattle.audio_handoff.proofs.seq_state.keeps.may_move_note.Goals as goal

pub returns : goal.returns
returns g c = moves_a_note g.row.W _ _ c.requires
