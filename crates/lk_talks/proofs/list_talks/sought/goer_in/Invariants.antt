-- The client doesn't go before `at`.
use Rattle.std.proofs.Common.{◌≡◌, ◌-◌, length, drop}
use Rattle.lk_talks.specs.Steps.{goes_in}
use Rattle.lk_talks.proofs.list_talks.sought.goer_in.Given as goal

abbrev pub invariant-loop-at : goal.invariant-loop-at
invariant-loop-at l = goes_in l.seat (drop l.at l.steps) ≡ goes_in l.seat (drop l.fn.from l.steps)

abbrev pub decreases-loop-at : goal.decreases-loop-at
decreases-loop-at l = length l.steps - l.at
