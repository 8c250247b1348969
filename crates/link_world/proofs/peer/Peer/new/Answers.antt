use Rattle.std.proofs.Common.{ℤ, w64, subst}
use Rattle.std.proofs.lemmas.Int.{to_z-of_z}
use Rattle.link_node.specs.Config.{config_value}
use Rattle.link_node.specs.Opening.{opened}
use Rattle.link_node.specs.Standing.{StandsFor}
use Rattle.link_world.proofs.peer.Peer.new.Goals as goal

pub returns : goal.returns
returns c =
    subst (λ (now : ℤ). StandsFor c.in_ok-node.node (opened (config_value c.args.config.now) now)) (to_z-of_z w64 _ c.ranges.now) c.in_ok-node.ensures.stands
