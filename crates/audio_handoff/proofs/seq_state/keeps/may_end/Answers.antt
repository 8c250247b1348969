use Rattle.audio_handoff.proofs.SeqSteps.{ends}
use Rattle.audio_handoff.proofs.seq_state.keeps.may_end.Goals as goal

pub returns : goal.returns
returns g c = ends g.row.W _ _ c.requires
