use Rattle.std.proofs.Common.{arith}
use Rattle.std.proofs.lemmas.Int.{ints}
use Rattle.link_hostfilter.proofs.FarLemmas.{far_by_host}
use Rattle.link_hostfilter.proofs.pair.Pair.is_far_from.Goals as goal

pub returns-else-new-self-gt-REACH : goal.returns-else-new-self-gt-REACH
returns-else-new-self-gt-REACH c =
    far_by_host c.args.new.now c.args.self.now c.abs_diff.result (omega (arith, ints)) (omega (arith, ints, c.abs_diff.ensures))
