use Rattle.std.proofs.Common.{◌≡◌, IsSome, None}
use Rattle.link_clients.specs.Standing.{Hosts}
use Rattle.link_clients.proofs.host.hear_all.Given as goal

abbrev pub invariant-loop-seat : goal.invariant-loop-seat
invariant-loop-seat g l = record {
  goes : Hosts l.fn.terms (g.T.Pace.late l.fn.rig.pace) (g.L.Talks.seen l.fn.talks) (g.L.Talks.seen l.talks) l.fn.pass l.pass l.fn.hall l.hall None;
  opened : (g.L.Talks.seen l.talks).opened ≡ (g.L.Talks.seen l.fn.talks).opened;
  is_open : IsSome (g.L.Talks.seen l.talks).opened;
  late : g.T.Pace.late l.rig.pace ≡ g.T.Pace.late l.fn.rig.pace;
}
