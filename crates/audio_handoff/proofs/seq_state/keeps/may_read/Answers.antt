use Rattle.audio_handoff.proofs.SeqSteps.{reads}
use Rattle.audio_handoff.proofs.seq_state.keeps.may_read.Goals as goal

pub returns : goal.returns
returns g c = reads g.row.W _ _ c.requires
