use Rattle.std.proofs.Common.{◌≡◌, ◌<◌, ◌≤◌, ◌++◌, List, length, map, refl, sym, ap, subst, ◌∙◌, rules}
use Rattle.std.proofs.lemmas.Option.{slice_get_read}
use Rattle.link_node.specs.Event.{SendingValue, Fits, event_value, sending_value}
use Rattle.link_node.specs.Step.{sends_of}
use Rattle.link_world.specs.declared.peer.Peer.{Peer}
use Rattle.link_world.proofs.StandingLemmas.{some_same}
use Rattle.link_world.proofs.TurnLemmas.{on_ok, offer_taken, offer_refused, offer_to_none}
use Rattle.link_world.proofs.world.World.offer.Goals.{else-k-len-via-then-k-len+else-can_take, else-k-len-via-else-k-len}
use Rattle.link_world.proofs.world.World.offer.Goals as goal

pub returns-then-can_take-clause-offered : goal.returns-then-can_take-clause-offered
returns-then-can_take-clause-offered c =
    on_ok _ _ c.keep.result c.keep.ensures (λ kept w stands.
    let peers = c.args.self.now.peers.items in
    let peer = c.index_mut.result.now in
    let event = event_value c.args.event.now in
    let within : c.args.k < length peers = search rules in
    let looked = slice_get_read peers _ c.args.k c.index.result.now refl within c.index.ensures in
    let found = slice_get_read peers _ c.args.k peer refl within c.index_mut.ensures.value in
    let same : c.index.result.now ≡ peer = some_same _ _ (sym looked ∙ found) in
    let fits = subst (λ (p : Peer). Fits p.gates p.app p.audio event) same (c.if-can_take.ensures.0 refl) in
    let made = offer_taken w peers c.args.k peer c.take.new.self event (map sending_value c.args.self.now.sent.items) c.take.new.sends (map sending_value c.keep.new.sent.items)
    stands.peers stands.sent found fits c.take.ensures.stands (λ m is. c.take.ensures.sends m is ∙ ap (λ (l : List SendingValue). l ++ sends_of m event) c.clear.ensures) kept in
    (made.0, made.1, record { peers = made.2.0; sent = made.2.1 }))

pub returns-clause-offered : goal.returns-clause-offered
returns-clause-offered c =
    let peers = c.args.self.now.peers.items in
    elim c.else-k-len.branch [
      | else-k-len-via-then-k-len+else-can_take b ↦ λ w stands.
          let within : c.args.k < length peers = search rules in
          let found = slice_get_read peers _ c.args.k b.index.result.now refl within b.index.ensures in
          (w, offer_refused w peers c.args.k b.index.result.now (event_value c.args.event.now) stands.peers found (λ fits. let e = b.if-can_take.ensures.1 fits in cc), stands)
      | else-k-len-via-else-k-len b ↦ λ w stands.
          let past : length peers ≤ c.args.k = search rules in
          (w, offer_to_none w peers c.args.k (event_value c.args.event.now) stands.peers past, stands)
    ]
