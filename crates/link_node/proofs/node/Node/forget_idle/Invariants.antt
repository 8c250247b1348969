use Rattle.std.proofs.Common.{length, ◌-◌}
use Rattle.link_node.proofs.ForgetLemmas.{AreForgotten}
use Rattle.link_node.proofs.node.Node.forget_idle.Given as goal

abbrev pub invariant-loop-k : goal.invariant-loop-k
invariant-loop-k l = AreForgotten l.initial.self l.self l.k

abbrev pub decreases-loop-k : goal.decreases-loop-k
decreases-loop-k l = length l.self.sessions.others - l.k
