use Rattle.std.proofs.Common.{rules, ◌∙◌}
use Rattle.link_node.specs.Client.{renewed}
use Rattle.link_node.proofs.NumberLemmas.{moment-back}
use Rattle.link_node.proofs.node.Node.renew.Goals as goal

pub returns-clause-stands : goal.returns-clause-stands
unfolding renewed
returns-clause-stands c m stands =
    let timeline = c.current-current.ensures.timeline m.sessions stands.sessions in
    let xform = c.current-current.ensures.xform m.sessions stands.sessions in
    let moment = moment-back c.args.self.now.moment c.args.self.now.in_time ∙ stands.moment in
    search rules
