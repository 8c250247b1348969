use Rattle.std.proofs.Common.{rules}
use Rattle.peer_gateway.specs.Answers.{seen_of}
use Rattle.peer_gateway.specs.Happenings as peers
use Rattle.peer_gateway.specs.Happenings.{life_after}
use Rattle.link_node.specs.Taking.{sighted, row_of}
use Rattle.link_node.proofs.PartLemmas.{now_in}
use Rattle.link_node.proofs.node.Node.sight.Goals as goal

pub returns-clause-stands : goal.returns-clause-stands
unfolding sighted
returns-clause-stands c m stands =
    let seen : peers.StandsFor c.saw.new.self (life_after (seen_of c.args.gate c.args.msg.now.from m.life) (row_of c.args.gate c.args.msg.now m) m.life) =
    rw (now_in _ m stands) at (c.saw.ensures.stands m.life stands.life) in
    search rules
