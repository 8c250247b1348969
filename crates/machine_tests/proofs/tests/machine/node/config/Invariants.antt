use Rattle.std.proofs.Common.{◌≡◌}
use Rattle.arrayvec.specs.ArrayVec.{array_vec_len}
use Rattle.machine_tests.proofs.tests.machine.node.config.Given as goal

abbrev pub invariant-loop-k : goal.invariant-loop-k
invariant-loop-k l = array_vec_len l.setups ≡ l.k
