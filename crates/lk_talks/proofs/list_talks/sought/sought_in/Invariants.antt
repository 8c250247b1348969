-- The client doesn't go before `at`, and what it sent before was heard.
use Rattle.std.proofs.Common.{◌≡◌, ◌-◌, length, drop}
use Rattle.lk_talks.specs.Sought.{left_in}
use Rattle.lk_talks.specs.Steps.{goes_in}
use Rattle.lk_talks.proofs.list_talks.sought.sought_in.Given as goal

abbrev pub invariant-loop-at : goal.invariant-loop-at
invariant-loop-at l = record {
  left : left_in l.steps l.seat l.at l.heard ≡ left_in l.steps l.seat l.fn.from l.fn.given;
  goes : goes_in l.seat (drop l.at l.steps) ≡ goes_in l.seat (drop l.fn.from l.steps);
}

abbrev pub decreases-loop-at : goal.decreases-loop-at
decreases-loop-at l = length l.steps - l.at
