use Rattle.std.specs.Prelude.{All}
use Rattle.lk_outside.specs.Coming.{IsToCome}
use Rattle.lk_outside.specs.declared.port.Arrival.{Arrival}
use Rattle.daemon_tests.proofs.tests.live.long.arrivals.Given as goal

abbrev pub invariant-loop-place : goal.invariant-loop-place
invariant-loop-place l = All (λ (arrival : Arrival). IsToCome arrival) l.arrivals.items
