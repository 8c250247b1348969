use Rattle.std.proofs.Common.{rules}
use Rattle.link_node.proofs.GateLemmas.{gate-is}
use Rattle.link_node.proofs.node.Node.send_alive.Goals as goal

pub returns-clause-sends : goal.returns-clause-sends
returns-clause-sends c m stands =
    let gate = gate-is c.args.self.now.config m.config c.args.k c.gate_at-gate.result.now stands.config c.gate_at-gate.ensures in
    let fields = c.fields.ensures m stands in
    rw gate (search rules)
