use Rattle.std.proofs.Common.{rules}
use Rattle.session_choice.specs.History as sessions
use Rattle.session_choice.specs.History.{measured_after}
use Rattle.link_node.proofs.PartLemmas.{now_in}
use Rattle.link_node.proofs.node.Node.weigh.Goals as goal

pub returns-clause-stands : goal.returns-clause-stands
returns-clause-stands c m stands =
    let taken : sessions.StandsFor c.measured.new.self (measured_after m.sessions c.args.session c.args.xform.offset m.moment) =
    rw (now_in _ m stands) at (c.measured.ensures.stands m.sessions stands.sessions) in
    search rules
