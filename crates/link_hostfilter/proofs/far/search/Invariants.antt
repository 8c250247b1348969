-- None so far is too far.
use Rattle.std.proofs.Common.{◌≡◌, drop}
use Rattle.link_hostfilter.specs.Kept.{first_far}
use Rattle.link_hostfilter.proofs.far.search.Given as goal

abbrev pub invariant-loop-pair : goal.invariant-loop-pair
invariant-loop-pair l = first_far l.new (drop l.pair-index l.pairs) ≡ first_far l.new l.pairs
