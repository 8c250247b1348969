-- How many of the first bytes differ.
use Rattle.std.proofs.Common.{◌≡◌, ◌≤◌, take}
use Rattle.std.specs.Prelude.{◌↔◌}
use Rattle.serve_adapters.proofs.greeting.is_same.Given as goal

abbrev pub invariant-loop-at : goal.invariant-loop-at
invariant-loop-at l = record {
  few : l.others ≤ l.at;
  same : (l.others ≡ 0) ↔ (take l.at l.a ≡ take l.at l.b);
}
