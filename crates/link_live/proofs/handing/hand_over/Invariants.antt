use Rattle.std.proofs.Common.{◌≡◌}
use Rattle.link_live.proofs.handing.hand_over.Given as goal

abbrev pub invariant-loop : goal.invariant-loop
invariant-loop g l = record {
  goes : (goal.iterator-loop g).can_next l.iterator' × (goal.iterator-loop g).is_finite l.iterator';
  pass : l.pass ≡ l.fn.pass;
}
