use Rattle.std.proofs.Common.{◌≤◌, ◌-◌, vec_len}
use Rattle.serve_adapters.proofs.hall.places_for_newcomers.Given as goal

abbrev pub invariant-loop-places : goal.invariant-loop-places
invariant-loop-places l = vec_len l.places ≤ 15

abbrev pub decreases-loop-places : goal.decreases-loop-places
decreases-loop-places l = 15 - vec_len l.places
