use Rattle.std.proofs.Common.{rules, ◌+◌}
use Rattle.link_node.specs.Commits.{app_taken}
use Rattle.link_node.proofs.node.Node.take_app.Goals as goal

pub returns-clause-stands : goal.returns-clause-stands
unfolding app_taken
returns-clause-stands c m stands = c.take_commit.ensures.stands (record m { app = m.app + 1 }) (let app = stands.app in search rules)
