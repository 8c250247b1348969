use Rattle.audio_handoff.proofs.SeqSteps.{settles}
use Rattle.audio_handoff.proofs.seq_state.keeps.may_settle.Goals as goal

pub returns : goal.returns
returns g c = settles g.row.W _ _ _ _ c.requires.writer c.requires.reader
