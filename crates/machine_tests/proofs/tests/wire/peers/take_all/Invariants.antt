use Rattle.std.proofs.Common.{◌≡◌}
use Rattle.machine_tests.proofs.tests.wire.peers.take_all.Given as goal

abbrev pub invariant-loop-k : goal.invariant-loop-k
invariant-loop-k g l = l.peers.gates ≡ l.gates
