use Rattle.timeline_math.proofs.BeatLemmas.{time_at-le}
use Rattle.timeline_math.proofs.laws.times_rise.Goals as goal

pub returns : goal.returns
returns c =
    time_at-le c.args.tl.now c.args.earlier c.args.later c.requires.tidy c.requires.order
