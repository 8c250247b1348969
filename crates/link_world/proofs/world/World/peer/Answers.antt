use Rattle.std.proofs.Common.{refl}
use Rattle.std.proofs.lemmas.Option.{slice_get_read}
use Rattle.link_world.proofs.StandingLemmas.{standing-at}
use Rattle.link_world.proofs.world.World.peer.Goals as goal

pub returns : goal.returns
returns c = λ w stands.
    let peers = c.args.self.now.peers.items in
    standing-at peers w.machines c.args.k c.index.result.now stands.peers (slice_get_read peers _ c.args.k c.index.result.now refl c.requires c.index.ensures)
