use Rattle.audio_handoff.proofs.SeqSteps.{publishes}
use Rattle.audio_handoff.proofs.seq_state.keeps.may_publish.Goals as goal

pub returns : goal.returns
returns g c = publishes g.row.W _ _ _ c.requires.writer c.requires.length c.requires.number c.requires.room
