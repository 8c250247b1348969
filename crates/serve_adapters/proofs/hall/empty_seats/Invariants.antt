use Rattle.std.proofs.Common.{◌≤◌, ◌-◌, vec_len}
use Rattle.serve_adapters.proofs.hall.empty_seats.Given as goal

abbrev pub invariant-loop-alloc : goal.invariant-loop-alloc
invariant-loop-alloc l = vec_len l.seats ≤ 15

abbrev pub decreases-loop-alloc : goal.decreases-loop-alloc
decreases-loop-alloc l = 15 - vec_len l.seats
