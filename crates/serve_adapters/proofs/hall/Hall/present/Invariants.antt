use Rattle.std.proofs.Common.{◌≤◌}
use Rattle.serve_adapters.proofs.hall.Hall.present.Given as goal

abbrev pub invariant-loop-at : goal.invariant-loop-at
invariant-loop-at g l = l.count ≤ l.at
