use Rattle.std.proofs.Common.{◌≡◌}
use Rattle.link_live.proofs.PostLemmas.{IsPosted}
use Rattle.link_live.proofs.network.post.Given as goal

abbrev pub invariant-loop-sending : goal.invariant-loop-sending
invariant-loop-sending g l = record {
  posted : IsPosted l.sends l.sending-index (g.P.Port.seen l.fn.port).told (g.P.Port.seen l.port).told;
  gates : (g.P.Port.seen l.port).gates ≡ (g.P.Port.seen l.fn.port).gates;
  faults : (g.P.Port.seen l.port).faults ≡ (g.P.Port.seen l.fn.port).faults;
}
