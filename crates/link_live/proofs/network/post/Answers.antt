use Rattle.std.proofs.Common.{◌<◌, length, map, subst, sym}
use Rattle.std.specs.List.{AllByRecursion}
use Rattle.link_node.specs.Event.{sending_value}
use Rattle.link_live.proofs.PostLemmas.{gate_at, some_posted}
use Rattle.link_live.proofs.network.post.Goals as goal

pub post_one-requires : goal.post_one-requires
post_one-requires g c = record {
  gate = gate_at (length (g.P.Port.seen c.loop-sending.port).gates) c.args.sends.now c.loop-sending.sending-index c.sending-item.result c.loop-sending-test.true c.sending-item.is
      (subst (λ l. AllByRecursion (λ s. s.gate.0 < length l) (map sending_value c.args.sends.now)) (sym c.loop-sending.invariant.gates) (c.requires.gates c.if-failed.false));
}

pub returns-then-not-post_one-clause-posted : goal.returns-then-not-post_one-clause-posted
returns-then-not-post_one-clause-posted g c =
    some_posted c.args.sends.now c.loop-sending.sending-index c.args.failed _ _ _ c.if-failed.false c.loop-sending.invariant.posted (c.post_one.ensures.failed c.if-not-post_one.true)
