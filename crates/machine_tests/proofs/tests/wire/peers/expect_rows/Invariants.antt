use Rattle.std.proofs.Common.{◌≡◌}
use Rattle.machine_tests.proofs.tests.wire.peers.expect_rows.Given as goal

abbrev pub invariant-loop-gate : goal.invariant-loop-gate
invariant-loop-gate g l = l.peers.gates ≡ l.gates
