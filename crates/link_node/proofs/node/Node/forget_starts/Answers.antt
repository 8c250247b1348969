use Rattle.std.proofs.Common.{rules}
use Rattle.client_state.specs.Starts.{latest_start_of}
use Rattle.link_node.proofs.node.Node.forget_starts.Goals as goal

pub returns-clause-stands : goal.returns-clause-stands
unfolding latest_start_of
returns-clause-stands c m stands = search rules
