use Rattle.std.proofs.Common.{sym, ◌∙◌}
use Rattle.std.proofs.lemmas.List.Elements.{All-push, All-same}
use Rattle.lk_base.specs.Endpoint.{IsEndpoint}
use Rattle.midi_clock.proofs.WordLemmas.{one_more_peer}
use Rattle.midi_clock.proofs.words.peers_of.Goals as goal

pub loop-peers-preserved : goal.loop-peers-preserved
loop-peers-preserved c =
    let read = c.in-Some-endpoint_of.ensures.some in (
      rw c.push.ensures.len (one_more_peer _ _ _ _ _ _ (rw c.len-number.ensures.value at c.in-Some.ensures.some) (sym c.as_bytes.ensures.value ∙ read.1) c.push.ensures.items c.loop-peers.invariant.0),
      All-same IsEndpoint _ _ c.push.ensures.items (All-push IsEndpoint _ _ c.loop-peers.invariant.1 read.0),
    )
