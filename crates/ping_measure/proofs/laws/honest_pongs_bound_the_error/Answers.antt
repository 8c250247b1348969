use Rattle.std.proofs.Common.{arith}
use Rattle.ping_measure.specs.Points.{points_of}
use Rattle.ping_measure.proofs.AccuracyLemmas.{enough_counted, fair_all}
use Rattle.ping_measure.proofs.laws.honest_pongs_bound_the_error.Goals as goal

pub returns-clause-counted : goal.returns-clause-counted
returns-clause-counted c = λ life h. enough_counted life.happened h

pub returns-clause-bound : goal.returns-clause-bound
returns-clause-bound c = λ life offset r h within fair.
    c.near_points_tell_a_near_offset.ensures (points_of life.happened) offset r (omega arith) within
    (fair_all offset r life.happened fair)
