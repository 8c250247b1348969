use Rattle.lk_base.specs.Rounding.{nearest_of}
use Rattle.lk_base.proofs.RoundingLemmas.{nearest_of-IsNearest, one_nearest}
use Rattle.lk_base.proofs.rounding.one_nearest.Goals as goal

pub returns-clause-there : goal.returns-clause-there
returns-clause-there c =
    (nearest_of c.args.n c.args.d, nearest_of-IsNearest c.args.n c.args.d c.requires)

pub returns-clause-one : goal.returns-clause-one
returns-clause-one c = λ p q isp isq. one_nearest c.args.n c.args.d p q c.requires isp isq
