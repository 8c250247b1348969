use Rattle.audio_handoff.proofs.SeqSteps.{opens}
use Rattle.audio_handoff.proofs.seq_state.keeps.may_open.Goals as goal

pub returns : goal.returns
returns g c = opens g.row.W _ _ _ c.requires.blank c.requires.length c.requires.number
