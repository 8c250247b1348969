use Rattle.audio_handoff.proofs.SeqSteps.{parts}
use Rattle.audio_handoff.proofs.seq_state.keeps.may_part.Goals as goal

pub returns : goal.returns
returns g c = parts g.row.W _ _ c.requires
