use Rattle.std.proofs.Common.{◌≡◌, ◌≤◌, IsSome, vec_capacity}
use Rattle.lk_base.specs.Ranges.{IsMoment}
use Rattle.link_control.specs.ServingNow.{IsHeard}
use Rattle.link_control.proofs.server.serve.Given as goal

abbrev pub invariant-loop : goal.invariant-loop
invariant-loop g l = record {
  goes : (goal.iterator-loop g).can_next l.iterator' × (goal.iterator-loop g).is_finite l.iterator';
  heard : IsHeard (g.T.Pace.late l.fn.pace) (g.L.Talk.seen l.fn.talk) (g.L.Talk.seen l.talk) l.fn.pass l.pass l.log.lines.items l.kept.last l.kept.line.items;
  is_open : IsSome (g.L.Talk.seen l.talk).opened;
  late : g.T.Pace.late l.pace ≡ g.T.Pace.late l.fn.pace;
  room : 4_096 ≤ vec_capacity l.log.lines;
  moment : IsMoment l.kept.last;
}
