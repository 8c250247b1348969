-- No client comes before `at`.
use Rattle.std.proofs.Common.{◌≡◌, ◌-◌, length, drop}
use Rattle.lk_talks.specs.Steps.{comes_in}
use Rattle.lk_talks.proofs.list_talks.sought.comer_in.Given as goal

abbrev pub invariant-loop-at : goal.invariant-loop-at
invariant-loop-at l = comes_in (drop l.at l.steps) ≡ comes_in (drop l.fn.from l.steps)

abbrev pub decreases-loop-at : goal.decreases-loop-at
decreases-loop-at l = length l.steps - l.at
