use Rattle.std.specs.Prelude.{All}
use Rattle.lk_outside.specs.Coming.{IsToCome}
use Rattle.lk_outside.specs.declared.port.Arrival.{Arrival}
use Rattle.live_tests.proofs.tests.live.network.given.arrivals_of.Given as goal

abbrev pub invariant-loop-letter : goal.invariant-loop-letter
invariant-loop-letter l = All (λ (arrival : Arrival). IsToCome arrival) l.arrivals.items
