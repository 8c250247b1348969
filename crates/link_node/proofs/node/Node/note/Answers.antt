use Rattle.std.proofs.Common.{rules}
use Rattle.link_node.specs.Settling.{noted}
use Rattle.link_node.proofs.node.Node.note.Goals as goal

pub returns-clause-stands : goal.returns-clause-stands
unfolding noted
returns-clause-stands c m stands =
    let held = c.held.ensures m stands in
    search rules
