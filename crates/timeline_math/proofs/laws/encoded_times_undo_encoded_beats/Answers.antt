use Rattle.timeline_math.proofs.EncodingLemmas.{encoded_time-encoded_beat}
use Rattle.timeline_math.proofs.laws.encoded_times_undo_encoded_beats.Goals as goal

pub returns : goal.returns
returns c =
    encoded_time-encoded_beat c.args.tl.now c.args.time c.args.quantum c.requires.0
