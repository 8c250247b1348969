use Rattle.audio_handoff.proofs.SeqSteps.{tells}
use Rattle.audio_handoff.proofs.seq_state.keeps.may_tell.Goals as goal

pub returns : goal.returns
returns g c = tells g.row.W _ _ _ _ c.requires.reader c.requires.note
