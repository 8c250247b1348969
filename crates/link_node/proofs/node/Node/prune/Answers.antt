use Rattle.std.proofs.Common.{rules}
use Rattle.peer_gateway.specs.Happenings as peers
use Rattle.peer_gateway.specs.Happenings.{was_pruned}
use Rattle.link_node.specs.Tick.{pruned}
use Rattle.link_node.proofs.PartLemmas.{now_in}
use Rattle.link_node.proofs.node.Node.prune.Goals as goal

pub returns-clause-stands : goal.returns-clause-stands
unfolding pruned
returns-clause-stands c m stands =
    let ended : peers.StandsFor c.prune-ended.new.self (was_pruned m.moment m.life) =
    rw (now_in _ m stands) at (c.prune-ended.ensures.stands m.life stands.life) in
    search rules
