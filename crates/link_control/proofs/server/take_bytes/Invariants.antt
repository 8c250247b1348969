use Rattle.std.proofs.Common.{◌≡◌, ◌≤◌, ◌++◌, take, List, ℕ, IsSome, vec_capacity}
use Rattle.lk_base.specs.Ranges.{IsMoment}
use Rattle.lk_outside.specs.Talk.{TalkSeen}
use Rattle.link_shared.specs.Passes.{AppView}
use Rattle.link_control.specs.ServingNow.{IsServing}
use Rattle.link_control.proofs.server.take_bytes.Given as goal

abbrev pub invariant-loop-byte : goal.invariant-loop-byte
invariant-loop-byte g l = record {
  taken : (start : TalkSeen) (before : AppView) (earlier : List ℕ)
      → IsServing (g.T.Pace.late l.fn.pace) start (g.L.Talk.seen l.fn.talk) before l.fn.pass l.fn.log.lines.items l.fn.kept.last earlier l.fn.kept.line.items
      → IsServing (g.T.Pace.late l.fn.pace) start (g.L.Talk.seen l.talk) before l.pass l.log.lines.items l.kept.last (earlier ++ take l.byte-index l.bytes) l.kept.line.items;
  left : (g.L.Talk.seen l.talk).left ≡ (g.L.Talk.seen l.fn.talk).left;
  opened : (g.L.Talk.seen l.talk).opened ≡ (g.L.Talk.seen l.fn.talk).opened;
  is_open : IsSome (g.L.Talk.seen l.talk).opened;
  late : g.T.Pace.late l.pace ≡ g.T.Pace.late l.fn.pace;
  capacity : vec_capacity l.log.lines ≡ vec_capacity l.fn.log.lines;
  room : 4_096 ≤ vec_capacity l.log.lines;
  moment : IsMoment l.kept.last;
}
