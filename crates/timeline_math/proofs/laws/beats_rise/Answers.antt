use Rattle.timeline_math.proofs.BeatLemmas.{beat_at-le}
use Rattle.timeline_math.proofs.laws.beats_rise.Goals as goal

pub returns : goal.returns
returns c =
    beat_at-le c.args.tl.now c.args.earlier c.args.later c.requires.tidy c.requires.order
