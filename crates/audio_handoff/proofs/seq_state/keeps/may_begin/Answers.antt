use Rattle.audio_handoff.proofs.SeqSteps.{begins}
use Rattle.audio_handoff.proofs.seq_state.keeps.may_begin.Goals as goal

pub returns : goal.returns
returns g c = begins g.row.W _ c.requires
