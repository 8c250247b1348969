use Rattle.timeline_math.proofs.EncodingLemmas.{encoded_beat-near, encoded_beat-phase}
use Rattle.timeline_math.proofs.laws.encoded_beats_keep_phase.Goals as goal

pub returns-clause-phase : goal.returns-clause-phase
returns-clause-phase c =
    encoded_beat-phase c.args.tl.now c.args.time c.args.quantum c.requires.0

pub returns-clause-near : goal.returns-clause-near
returns-clause-near c = encoded_beat-near c.args.tl.now c.args.time c.args.quantum c.requires.0
