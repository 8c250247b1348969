use Rattle.std.proofs.Common.{◌≡◌}
use Rattle.machine_tests.proofs.tests.machine.text.load.event_after.Given as goal

abbrev pub invariant-loop-k : goal.invariant-loop-k
invariant-loop-k l = l.events.made ≡ l._k
