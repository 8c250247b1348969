use Rattle.audio_handoff.proofs.SeqSteps.{checks}
use Rattle.audio_handoff.proofs.seq_state.keeps.may_check.Goals as goal

pub returns : goal.returns
returns g c = checks g.row.W _ _ c.requires
