use Rattle.std.proofs.Common.{◌≡◌, ◌++◌, drop, List, ℕ, IsSome}
use Rattle.lk_talks.specs.Talks.{TalksSeen}
use Rattle.link_shared.specs.Passes.{AppView}
use Rattle.link_clients.specs.Standing.{StandsAmid}
use Rattle.link_clients.proofs.piece.take_bytes.Given as goal

abbrev pub invariant-loop-byte : goal.invariant-loop-byte
invariant-loop-byte g l = record {
  taken : (start : TalksSeen) (first : AppView) (left : List ℕ)
      → StandsAmid l.fn.terms (g.T.Pace.late l.fn.rig.pace) start (g.L.Talks.seen l.fn.talks) first l.fn.pass l.fn.hall l.fn.seat (l.bytes ++ left)
      → StandsAmid l.fn.terms (g.T.Pace.late l.fn.rig.pace) start (g.L.Talks.seen l.talks) first l.pass l.hall l.fn.seat (drop l.byte-index l.bytes ++ left);
  opened : (g.L.Talks.seen l.talks).opened ≡ (g.L.Talks.seen l.fn.talks).opened;
  is_open : IsSome (g.L.Talks.seen l.talks).opened;
  late : g.T.Pace.late l.rig.pace ≡ g.T.Pace.late l.fn.rig.pace;
}
