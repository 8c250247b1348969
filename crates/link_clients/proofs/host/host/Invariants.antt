use Rattle.std.proofs.Common.{◌≡◌, ◌≤ℤ◌, pos, IsSome}
use Rattle.link_clients.specs.Standing.{Stands}
use Rattle.link_clients.proofs.host.host.Given as goal

abbrev pub invariant-loop : goal.invariant-loop
invariant-loop g l = record {
  goes : (goal.iterator-loop g).can_next l.iterator' × (goal.iterator-loop g).is_finite l.iterator';
  stands : Stands l.fn.terms (g.T.Pace.late l.fn.rig.pace) (g.L.Talks.seen l.fn.talks) (g.L.Talks.seen l.talks) l.fn.pass l.pass l.hall;
  is_open : IsSome (g.L.Talks.seen l.talks).opened;
  late : g.T.Pace.late l.rig.pace ≡ g.T.Pace.late l.fn.rig.pace;
  from : pos 0 ≤ℤ l.wait;
  to : l.wait ≤ℤ pos 250_000;
}
